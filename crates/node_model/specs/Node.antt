-- One node: what it knows, what it does with a frame that it hears, and what it offers. Times are bit times.
use Rattle.std.specs.Prelude.{ℕ, ◌+◌, ◌-◌, ◌/◌, ◌^◌, ◌<◌, ◌≤◌, ◌==◌, ◌&&◌, ◌||◌, not}
use Rattle.std.specs.Prelude.{Bool, nat_le, nat_lt, nat_eq, if◌then◌else◌, List, [], map, filter, min, Option}
use Rattle.std.specs.Prelude.{Some, None, IfSome, IsSome, is_some, option_map, slice_get}
use Rattle.std.specs.Option.{option_map_or}
use Rattle.std.specs.List.{list_any}
use Rattle.profile.specs.Limits.{cycles_end, first_identifier, least_asynchronous}
use Rattle.can_frame.specs.DataFrame.{DataFrame}
use Rattle.can_frame.specs.declared.data_frame.TimedFrame.{TimedFrame}
use Rattle.cycle_layout.specs.Layout.{CycleLayout, IsLayout, sync_start}
use Rattle.trigger_kind.specs.Kind.{opening_identifier, triggers_of}
use Rattle.requirement_table.specs.declared.entries.Placed.{Placed}
use Rattle.bit_sets.specs.Sets.{has_bit, set_of, most_slots}
use Rattle.requirement_table.specs.Instance.{bytes_of}
use Rattle.requirement_table.specs.Table.{instance_in, IsWellPlaced}
use Rattle.bit_sets.specs.Least.{least_where}
use Rattle.trigger_codec.specs.declared.message.Trigger.{Trigger}
use Rattle.trigger_codec.specs.Bytes.{trigger_of}
use Rattle.trigger_codec.specs.Heard.{IsNoted, Noted, first_heard, last_heard}
use Rattle.async_window.specs.declared.request.Owner.{Owner}
use Rattle.async_window.specs.declared.request.Request.{Request}
use Rattle.async_window.specs.Mailbox.{IsLeastWith, IsMail, Mail, mail_after, mail_offer, unsent_of, without_first}

-- a cycle that is open for a node: its number, the length of its synchronous window, the slots that are flagged, and
-- the node's slots of which it heard a frame in it, as sets of slots
pub record Opened : Type 0 where
  pub cycle : ℕ
  pub width : ℕ
  pub mask : ℕ
  pub heard : ℕ

-- what a node knows: its number, the layout, the placed entries that it learnt, its unsent requests, the cycle that is
-- open for it, the next cycle, the number of frames that it heard, and what it heard of the trigger frames of
-- the next cycle, of which the last one did not come yet
pub record NodeState : Type 0 where
  pub number : ℕ
  pub layout : CycleLayout
  pub entries : List Placed
  pub mail : List Mail
  pub opened : Option Opened
  pub next : ℕ
  pub frames : ℕ
  pub noted : Noted

-- a node: what it knows, and the greatest length of a list that it can learn without memory
pub record NodeView : Type 0 where
  pub state : NodeState
  pub spare : ℕ

-- what holds of every node
pub record IsNode (node : NodeState) : Type 0 where
  pub layout : IsLayout node.layout
  pub entries : IsWellPlaced node.entries
  pub mail : IsMail node.mail
  pub opened : IfSome node.opened (λ o. (o.width ≤ node.layout.window) × (o.cycle < node.next))
  pub next : node.next ≤ cycles_end
  pub frames : node.frames < 2 ^ 64
  pub noted : IfSome node.noted (IsNoted (triggers_of node.layout.slots) node.layout.window node.next)

-- the placed entries of a node
abbrev pub entries_of : ℕ → List Placed → List Placed
entries_of number placed = filter (λ p. p.entry.node == number) placed

-- an entry as one of a node: the same, with the node's number
abbrev pub with_node : ℕ → Placed → Placed
with_node number p = record p { entry = record p.entry { node = number } }

-- the asynchronous identifiers of a node
abbrev pub identifiers_of : ℕ → List Owner → List ℕ
identifiers_of number owners = map (λ owner. owner.id) (filter (λ owner. owner.node == number) owners)

-- a node before cycle 0, which has learnt and heard nothing
abbrev pub fresh_node : CycleLayout → List Owner → List Request → ℕ → NodeState
fresh_node layout owners requests number = record {
  number = number;
  layout = layout;
  entries = [];
  mail = mail_after (identifiers_of number owners) requests [];
  opened = None;
  next = 0;
  frames = 0;
  noted = None;
}

-- a node that has learnt a list: it knows the entries of its own
abbrev pub learnt : List Placed → NodeState → NodeState
learnt placed node = record node { entries = entries_of node.number placed }

-- What a node does with a frame

-- what a first trigger frame of the next cycle says, where the frame is one: its window is at most the largest one, and
-- its byte 0 is that cycle modulo 256
abbrev pub next_trigger : NodeState → DataFrame → Option Trigger
next_trigger node frame = first_heard node.layout.window node.next (trigger_of frame)

-- what the trigger frames of the next cycle say, where the frame is the last of them
abbrev pub opening_trigger : NodeState → DataFrame → Option Trigger
opening_trigger node frame =
    last_heard (triggers_of node.layout.slots) node.layout.window node.next node.noted frame

-- the next cycle as such a trigger opens it; without one it is opened with nothing synchronous
abbrev pub opened_by : ℕ → Option Trigger → Opened
opened_by cycle None = record { cycle = cycle; width = 0; mask = 0; heard = 0 }
opened_by cycle (Some trigger) = record { cycle = cycle; width = trigger.l; mask = trigger.mask; heard = 0 }

-- a node for which a frame opens the next cycle
abbrev pub after_opening : NodeState → DataFrame → NodeState
after_opening node frame = record node {
  opened = Some (opened_by node.next (opening_trigger node frame));
  next = node.next + 1;
  noted = None;
}

-- a node that notes the first trigger frame, where that is not the last one; where it is not of the next cycle, nothing
-- was heard of that cycle's trigger frames
abbrev pub after_noting : NodeState → DataFrame → NodeState
after_noting node frame = record node { noted = next_trigger node frame }

-- whether the identifier is that of a slot in which the node has an entry
abbrev pub is_own_slot : List Placed → ℕ → Bool
is_own_slot entries id = list_any (λ p. first_identifier + p.entry.slot == id) entries

-- an open cycle in which one more slot was heard
abbrev pub with_heard : ℕ → Opened → Opened
with_heard slot opened = record opened { heard = set_of most_slots (λ s. (s == slot) || has_bit opened.heard s) }

-- a node that marks a slot in the open cycle, where one is open
abbrev pub after_slot : NodeState → ℕ → NodeState
after_slot node slot = record node { opened = option_map (with_heard slot) node.opened }

-- a node whose first unsent request of the identifier is taken away, where it has one
abbrev pub after_request : NodeState → ℕ → NodeState
after_request node id = record node { mail = without_first id node.mail }

-- what a node does with a frame besides counting it; a frame that is none of these changes nothing, as it takes away no
-- request
abbrev pub after_frame : NodeState → DataFrame → NodeState
after_frame node frame =
    if frame.identifier == opening_identifier node.layout.slots then after_opening node frame
    else (if nat_lt frame.identifier (opening_identifier node.layout.slots) then after_noting node frame
    else (if is_own_slot node.entries frame.identifier then after_slot node (frame.identifier - first_identifier)
    else after_request node frame.identifier))

-- a count that stands still at the end of its type
abbrev pub counted : ℕ → ℕ
counted n = min (n + 1) (2 ^ 64 - 1)

-- a node that has heard a frame
abbrev pub after_hearing : NodeState → TimedFrame → NodeState
after_hearing node sent = let counting = record node { frames = counted node.frames } in after_frame counting sent.frame

-- What a node offers

-- whether the node is to send the slot in the open cycle: it is flagged, the node has an instance that may be sent in
-- the cycle, and has not heard it
abbrev pub is_due : List Placed → Opened → ℕ → Bool
is_due entries opened slot =
    has_bit opened.mask slot
    && (is_some (instance_in entries slot opened.cycle) && not (has_bit opened.heard slot))

-- what a node offers in an open cycle: in the synchronous window the least slot that it is to send, and before it what
-- its mailboxes offer
abbrev pub offer_in : NodeState → ℕ → Opened → Option ℕ
offer_in node at opened =
    if nat_eq (at / node.layout.cycle) opened.cycle
    then (if nat_le (sync_start node.layout opened.cycle opened.width) at
    then option_map (λ slot. first_identifier + slot) (least_where most_slots (is_due node.entries opened))
    else mail_offer node.layout opened.width node.mail at)
    else None

-- the identifier that a node offers at a time: none where no cycle is open for it, or another one than that of the time
abbrev pub node_offer : NodeState → ℕ → Option ℕ
node_offer node at = offered_by node.opened
  where
    offered_by : Option Opened → Option ℕ
    offered_by None = None
    offered_by (Some opened) = offer_in node at opened

-- the least time behind `at` at which the node offers something; none where it never does
abbrev pub IsNextOffer : NodeState → ℕ → Option ℕ → Type 0
IsNextOffer node at time = IsLeastWith (λ later. (at < later) × IsSome (node_offer node later)) time

-- the bytes of a frame that a node offers at a time: those of its first unsent request of the identifier, or of the
-- instance of the slot
abbrev pub node_bytes : NodeState → ℕ → ℕ → List ℕ
node_bytes node at id =
    if nat_le least_asynchronous id
    then option_map_or (λ request. request.frame.bytes) (slice_get (unsent_of node.mail id) 0) []
    else option_map_or bytes_of (instance_in node.entries (id - first_identifier) (at / node.layout.cycle)) []

-- the frame that a node offers at a time under an identifier
abbrev pub node_frame : NodeState → ℕ → ℕ → DataFrame
node_frame node at id = record { identifier = id; bytes = node_bytes node at id }
