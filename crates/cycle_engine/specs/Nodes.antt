-- The nodes of a bus together.
use Rattle.std.specs.Prelude.{◌≡◌, ℕ, ◌*◌, ◌<◌, ◌≤◌}
use Rattle.std.specs.Prelude.{List, All, Any, Contains, map, fold, sum_by, Option, Some, None, IfSome, IsSome, length, true}
use Rattle.can_frame.specs.declared.data_frame.TimedFrame.{TimedFrame}
use Rattle.cycle_layout.specs.Layout.{CycleLayout}
use Rattle.requirement_table.specs.declared.entries.Placed.{Placed}
use Rattle.requirement_table.specs.declared.entries.Order.{Order}
use Rattle.bit_sets.specs.Sets.{has_bit, most_slots}
use Rattle.requirement_table.specs.Table.{IsWellPlaced, instance_in}
use Rattle.async_window.specs.declared.request.Owner.{Owner}
use Rattle.async_window.specs.declared.request.Request.{Request}
use Rattle.requirement_table.specs.Opening.{Opening, width_of}
use Rattle.async_window.specs.Mailbox.{left}
use Rattle.node_model.specs.Node.{NodeState, NodeView, after_hearing, learnt}
use Rattle.async_window.specs.Owners.{AreOwners}
use Rattle.node_model.specs.Own.{StandsOnBus}

-- the layout of a bus, and its nodes
pub record NodesView : Type 0 where
  pub layout : CycleLayout
  pub nodes : List NodeView

-- what nodes know
abbrev pub states_of : List NodeView → List NodeState
states_of nodes = map (λ node. node.state) nodes

-- the nodes' `spare` is at least so much: each of them can learn a list of so many entries without memory
abbrev pub HaveSpare : ℕ → List NodeView → Type 0
HaveSpare entries nodes = All (λ node. entries ≤ node.spare) nodes

-- it did not fall: what it was at least, it is at least now
abbrev pub KeepSpare : List NodeView → List NodeView → Type 0
KeepSpare old new = (entries : ℕ) → HaveSpare entries old → HaveSpare entries new

-- nodes that can learn a list without memory, where there is one
abbrev pub CanLearn : Option (List Placed) → List NodeView → Type 0
CanLearn learned nodes = IfSome learned (λ placed. HaveSpare (length placed) nodes)

-- nodes that have learnt a list, where there is one
abbrev pub learnt_by : Option (List Placed) → List NodeState → List NodeState
learnt_by None nodes = nodes
learnt_by (Some placed) nodes = map (learnt placed) nodes

-- nodes that have heard frames, in their order
abbrev pub heard_by : List TimedFrame → List NodeState → List NodeState
heard_by frames nodes = map (λ node. fold after_hearing node frames) nodes

-- how many requests of the nodes are not sent
abbrev pub left_in : List NodeState → ℕ
left_in nodes = sum_by (λ node. left node.mail) nodes

-- the number is that of a node
abbrev pub IsNumber : List NodeState → ℕ → Type 0
IsNumber nodes number = Contains (map (λ node. node.number) nodes) number

-- the request has an owner among the nodes
pub record IsOwned (owners : List Owner) (nodes : List NodeState) (request : Request) : Type 0 where
  pub owner : Owner
  pub owns : Contains owners owner
  pub identifier : owner.id ≡ request.frame.identifier
  pub node : IsNumber nodes owner.node

-- the nodes of a bus before the cycle `next`: each knows its entries of a list, and its unsent requests after the
-- frames `past`; and each request is that of a node
pub record IsBus (layout : CycleLayout) (owners : List Owner) (requests : List Request) (placed : List Placed)
    (past : List TimedFrame) (next : ℕ) (nodes : List NodeState) : Type 0 where
  pub well_placed : IsWellPlaced placed
  pub are_owners : AreOwners owners
  pub stand : All (StandsOnBus layout owners requests placed past next) nodes
  pub owned : All (IsOwned owners nodes) requests

-- one of the nodes knows an instance of the slot that may be sent in the cycle
abbrev pub IsSlotKnown : List NodeState → ℕ → ℕ → Type 0
IsSlotKnown nodes cycle slot = Any (λ node. IsSome (instance_in node.entries slot cycle)) nodes

-- of each flagged slot one of the nodes knows an instance that may be sent in the cycle, and the window has the length
-- of their frames
pub record FitsOrder (l : ℕ) (opening : Opening) (nodes : List NodeState) : Type 0 where
  pub width : l ≡ width_of opening
  pub present : (slot : ℕ) → slot < most_slots → has_bit opening.mask slot ≡ true → IsSlotKnown nodes opening.cycle slot

-- the cycle that an order opens, where this list is placed
abbrev pub opening_of : Order → List Placed → Opening
opening_of order placed = record { cycle = order.cycle; mask = order.mask; placed = placed }

-- the nodes of a bus before the cycle of an order, after the frames `past` of the cycles before it
pub record IsBefore (layout : CycleLayout) (owners : List Owner) (requests : List Request) (placed : List Placed)
    (past : List TimedFrame) (order : Order) (nodes : List NodeState) : Type 0 where
  pub bus : IsBus layout owners requests placed past order.cycle nodes
  pub fits : FitsOrder order.l (opening_of order placed) nodes
  pub before : All (λ sent. sent.start < order.cycle * layout.cycle) past
