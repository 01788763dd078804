-- How a node stands to the whole bus: which part of what is offered is its own, and what it knows after the frames of a
-- bus.
use Rattle.std.specs.Prelude.{◌≡◌, ℕ, ◌+◌, ◌<◌, ◌≤◌, ◌⊎◌, ◌==◌, ◌&&◌}
use Rattle.std.specs.Prelude.{nat_le, Bool, true, List, Contains, IsSome, map, slice_get, Some, MatchOption}
use Rattle.std.specs.List.{list_any}
use Rattle.profile.specs.Limits.{first_identifier}
use Rattle.can_frame.specs.DataFrame.{DataFrame}
use Rattle.can_frame.specs.declared.data_frame.TimedFrame.{TimedFrame}
use Rattle.cycle_layout.specs.Layout.{CycleLayout}
use Rattle.requirement_table.specs.declared.entries.Placed.{Placed}
use Rattle.bit_sets.specs.Sets.{has_bit, most_slots}
use Rattle.requirement_table.specs.Instance.{Instance, bytes_of}
use Rattle.requirement_table.specs.Table.{instance_in}
use Rattle.async_window.specs.declared.request.Owner.{Owner}
use Rattle.async_window.specs.declared.request.Request.{Request}
use Rattle.async_window.specs.Mailbox.{mail_after, unsent_of}
use Rattle.requirement_table.specs.Opening.{Opening, width_of}
use Rattle.node_model.specs.Opening.{start_of}
use Rattle.node_model.specs.Offered.{OffersRequest, OffersSlot}
use Rattle.node_model.specs.Node.{NodeState, Opened, counted, entries_of, identifiers_of, node_offer, node_frame}

-- the part of what is offered in a cycle that is a node's own: the requests of its identifiers, and the slots of which
-- it has the instance
abbrev pub OffersOwn : ℕ → CycleLayout → List Owner → List Request → Opening → List TimedFrame → ℕ → DataFrame → Type 0
OffersOwn number layout owners requests opening past at frame =
    (OffersRequest layout requests opening past at frame × Contains (identifiers_of number owners) frame.identifier)
    ⊎ ((slot : ℕ) × OffersSlot bytes_of layout opening past at frame slot × ((instance : Instance)
    × (instance_in opening.placed slot opening.cycle ≡ Some instance) × (instance.placed.entry.node ≡ number)))

-- what a node offers at a time is the least of its own part, and nothing where nothing of it is offered
abbrev pub OffersLeastOwn : CycleLayout → List Owner → List Request → Opening → List TimedFrame → ℕ → NodeState → Type 0
OffersLeastOwn layout owners requests opening past at node =
    MatchOption (node_offer node at)
    ((frame : DataFrame) → OffersOwn node.number layout owners requests opening past at frame → ⊥)
    (λ id. OffersOwn node.number layout owners requests opening past at (node_frame node at id)
    × ((frame : DataFrame) → OffersOwn node.number layout owners requests opening past at frame
    → id ≤ frame.identifier))

-- a node that has this layout, knows its own entries of a list, and heard the frames `past` of a bus with these owners
-- and requests, so that these of its requests are unsent; `next` is its next cycle
pub record StandsOnBus (layout : CycleLayout) (owners : List Owner) (requests : List Request) (placed : List Placed)
    (past : List TimedFrame) (next : ℕ) (node : NodeState) : Type 0 where
  pub same_layout : node.layout ≡ layout
  pub own_entries : node.entries ≡ entries_of node.number placed
  pub own_mail : node.mail ≡ mail_after (identifiers_of node.number owners) requests past
  pub next_cycle : node.next ≡ next

-- whether a frame of the slot started from the cycle's start on
abbrev pub was_sent : CycleLayout → Opening → List TimedFrame → ℕ → Bool
was_sent layout opening past slot =
    list_any (λ sent. (sent.frame.identifier == first_identifier + slot)
    && nat_le (start_of layout opening) sent.start) past

-- the cycle is open for the node, as its trigger frames said, and the node's slots that were sent in it are marked
pub record IsOpenFor (layout : CycleLayout) (opening : Opening) (past : List TimedFrame)
    (node : NodeState) (opened : Opened) : Type 0 where
  pub is_open : node.opened ≡ Some opened
  pub cycle : opened.cycle ≡ opening.cycle
  pub width : opened.width ≡ width_of opening
  pub mask : opened.mask ≡ opening.mask
  pub heard : (slot : ℕ) → slot < most_slots → list_any (λ p. p.entry.slot == slot) node.entries ≡ true
      → has_bit opened.heard slot ≡ was_sent layout opening past slot

-- a node within an opened cycle, after the frames `past`
pub record StandsIn (layout : CycleLayout) (owners : List Owner) (requests : List Request)
    (opening : Opening) (past : List TimedFrame) (node : NodeState) : Type 0 where
  pub stands : StandsOnBus layout owners requests opening.placed past (opening.cycle + 1) node
  pub opened : Opened
  pub is_open : IsOpenFor layout opening past node opened

-- the node has an unsent request of the identifier
abbrev pub HasRequest : NodeState → ℕ → Type 0
HasRequest node id = IsSome (slice_get (unsent_of node.mail id) 0)

-- a node that counts a frame, and does nothing else with it
abbrev pub counting : NodeState → NodeState
counting node = record node { frames = counted node.frames }

-- two nodes that have no identifier in common, and no slot of which both may send an instance in one cycle
pub record AreApart (one other : NodeState) : Type 0 where
  pub mail : (id : ℕ) → Contains (map (λ box. box.identifier) one.mail) id
      → Contains (map (λ box. box.identifier) other.mail) id → ⊥
  pub slots : (slot cycle : ℕ) (mine theirs : Instance) → instance_in one.entries slot cycle ≡ Some mine
      → instance_in other.entries slot cycle ≡ Some theirs → ⊥
