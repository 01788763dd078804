-- What a node keeps besides what it knows, so that it answers without a look at its entries, or at those of them that
-- are over.
use Rattle.std.specs.Prelude.{◌≡◌, ℕ, ◌+◌, ◌-◌, ◌*◌, ◌/◌, ◌^◌, ◌<◌, ◌≤◌, ◌==◌, ◌||◌, Bool, true, List, map, filter, slice_get, Option, Some, None, IfSome, IsSomeAnd, option_map}
use Rattle.std.specs.Option.{option_map_or}
use Rattle.std.specs.List.{list_any}
use Rattle.requirement_table.specs.declared.entries.Placed.{Placed}
use Rattle.requirement_table.specs.Instance.{bytes_of, payload, release_of}
use Rattle.bit_sets.specs.Sets.{has_bit, most_slots}
use Rattle.requirement_table.specs.Table.{instance_in, IsWellPlaced}
use Rattle.node_model.specs.Node.{IsNode, NodeState, Opened, is_due, node_offer, with_node}
use Rattle.node_model.specs.declared.cycle.Open.{Open}
use Rattle.node_model.specs.declared.ahead.OfferAhead.{OfferAhead}
use Rattle.node_model.specs.declared.entries.Ready.{Ready}
use Rattle.node_model.specs.Ahead.{IsAhead}

-- what contracts see of a cycle that is open
abbrev pub opened_of : Open → Opened
opened_of open_cycle =
    record { cycle = open_cycle.cycle; width = open_cycle.width; mask = open_cycle.mask; heard = open_cycle.heard }

-- what a node keeps of a list: the entries of its own, or with `all` each of them, under its number
abbrev pub kept_of : Bool → ℕ → List Placed → List Placed
kept_of all number placed = map (with_node number) (filter (λ p. all || p.entry.node == number) placed)

-- `own` are the slots of these entries
abbrev pub AreSlotsOf : List Placed → ℕ → Type 0
AreSlotsOf entries own = (slot : ℕ) → has_bit own slot ≡ list_any (λ p. p.entry.slot == slot) entries

-- the open cycle's `due` are the slots that the node is to send in it
abbrev pub KnowsDue : List Placed → Open → Type 0
KnowsDue entries open_cycle =
    (slot : ℕ) → slot < most_slots → has_bit open_cycle.due slot ≡ is_due entries (opened_of open_cycle) slot

-- the cycle from which on a node may have to send: the open one, or the next one where none is open
abbrev pub sends_from : Option Opened → ℕ → ℕ
sends_from opened next = option_map_or (λ o. o.cycle) opened next

-- from a cycle on, the entries that are left have all instances that may be sent of these entries
abbrev pub HaveInstances : List Placed → ℕ → List Placed → Type 0
HaveInstances entries from left = (slot c : ℕ) → from ≤ c → instance_in left slot c ≡ instance_in entries slot c

-- what is known of the instances of a slot once this instance of an entry was found
abbrev pub ready_of : Placed → ℕ → Ready
ready_of p k = record {
  release = release_of p k;
  end = option_map_or (λ end. end) p.end (2 ^ 64 - 1);
  number = k;
  period = p.entry.period;
  deadline = p.entry.deadline;
  length = p.entry.length;
}

-- the cycle in which the instance is released that is `k` releases after the one that is known
abbrev pub released_after : Ready → ℕ → ℕ
released_after ready k = ready.release + k * ready.period

-- the bytes of its frame: the low ones of its number
abbrev pub carried_after : Ready → ℕ → List ℕ
carried_after ready k = payload ready.length (ready.number + k)

-- what is known of the slot's instances is right, where something is: the known one, and each that its entry releases
-- after it, may be sent in as many cycles from its release on as the deadline says, and its frame carries this
pub record IsSlotReady (entries : List Placed) (slot : ℕ) (ready : Ready) : Type 0 where
  pub number : ready.number ≤ ready.release
  pub deadline : ready.deadline ≤ ready.period
  pub length : ready.length ≤ 8
  pub each : (k c : ℕ) → released_after ready k < ready.end → released_after ready k ≤ c
      → c < released_after ready k + ready.deadline
      → option_map bytes_of (instance_in entries slot c) ≡ Some (carried_after ready k)

-- the same of each slot
abbrev pub AreReady : List Placed → List Ready → Type 0
AreReady entries slots = (slot : ℕ) → IfSome (slice_get slots slot) (IsSlotReady entries slot)

-- the known instance exists, and may be sent in this cycle
pub record IsSendableIn (c : ℕ) (ready : Ready) : Type 0 where
  pub released : ready.release ≤ c
  pub in_time : c < ready.release + ready.deadline
  pub exists : ready.release < ready.end

-- that of each slot of a set is known, exists, and may be sent in this cycle
abbrev pub AreSendableIn : ℕ → ℕ → List Ready → Type 0
AreSendableIn c set slots = (slot : ℕ) → has_bit set slot ≡ true → IsSomeAnd (slice_get slots slot) (IsSendableIn c)

-- of each slot that the node is to send in the open cycle the instance is known
abbrev pub KnowsInstances : List Ready → Open → Type 0
KnowsInstances slots open_cycle = AreSendableIn open_cycle.cycle open_cycle.due slots

-- what is true of the fields of every node: those that contracts see make a node, and the others follow from them
pub record IsNodeKept (state : NodeState) (own : ℕ) (left : List Placed) (slots : List Ready) (current : Option Open)
    (look : Option OfferAhead) : Type 0 where
  pub node : IsNode state
  pub own_slots : AreSlotsOf state.entries own
  pub placed : IsWellPlaced left
  pub instances : HaveInstances state.entries (sends_from state.opened state.next) left
  pub ready : AreReady left slots
  pub due : IfSome current (KnowsDue state.entries)
  pub instances_due : IfSome current (KnowsInstances slots)
  pub ahead : IfSome look (IsAhead state)

-- this cycle is open for the node, and the time lies in it
pub record IsOpenAt (node : NodeState) (at : ℕ) (open_cycle : Open) : Type 0 where
  pub opened : node.opened ≡ Some (opened_of open_cycle)
  pub cycle : at / node.layout.cycle ≡ open_cycle.cycle
  pub due : KnowsDue node.entries open_cycle

-- the node offers nothing in the cycle of a time
abbrev pub IsClosedAt : NodeState → ℕ → Type 0
IsClosedAt node at = (later : ℕ) → later / node.layout.cycle ≡ at / node.layout.cycle → node_offer node later ≡ None
