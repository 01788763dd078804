-- A bus whose nodes take requests while they run and send bytes of their users, behind the trigger frames of a cycle.
use Rattle.std.specs.Prelude.{◌≡◌, ℕ, ◌+◌, ◌*◌, ◌<◌, ◌≤◌, List, ◌++◌, All, Contains, Some, drop, length, map}
use Rattle.profile.specs.Limits.{first_identifier, least_asynchronous}
use Rattle.can_frame.specs.DataFrame.{DataFrame}
use Rattle.can_frame.specs.declared.data_frame.TimedFrame.{TimedFrame}
use Rattle.bit_sets.specs.Sets.{most_slots}
use Rattle.requirement_table.specs.Instance.{Instance}
use Rattle.requirement_table.specs.Opening.{Opening}
use Rattle.requirement_table.specs.Table.{instance_in}
use Rattle.async_window.specs.declared.request.Owner.{Owner}
use Rattle.async_window.specs.declared.request.Request.{Request}
use Rattle.async_window.specs.Online.{WereRequests, arrived_by}
use Rattle.bus_line.specs.Trace.{Follows, Offers, free_after}
use Rattle.requirement_table.specs.declared.entries.Placed.{Placed}
use Rattle.cycle_engine.specs.Offered.{offered_in}
use Rattle.node_model.specs.Node.{IsNode, NodeState, node_frame, node_offer}
use Rattle.node_model.specs.Online.{serving}
use Rattle.can_frame.specs.Wire.{wire_length}
use Rattle.cycle_layout.specs.Layout.{CycleLayout}
use Rattle.requirement_table.specs.declared.entries.Order.{Order}
use Rattle.trigger_codec.specs.Bytes.{triggers_with}
use Rattle.cycle_engine.specs.Cycle.{AreAtOnce}
use Rattle.cycle_engine.specs.Nodes.{IsBus, heard_by, opening_of}

-- one of the nodes offers the frame: a node that was given the requests that have arrived. A request is sent as it was put,
-- and in a slot the bytes that the instance sends which may be sent in the cycle
pub record OffersLive (sends : Instance → List ℕ) (owners : List Owner) (requests : List Request) (opening : Opening)
    (nodes : List NodeState) (past : List TimedFrame) (at : ℕ) (frame : DataFrame) : Type 0 where
  pub node : NodeState
  pub has : Contains nodes node
  pub offered : node_offer (serving owners (arrived_by at requests) past node) at ≡ Some frame.identifier
  pub as_put : least_asynchronous ≤ frame.identifier
      → frame ≡ node_frame (serving owners (arrived_by at requests) past node) at frame.identifier
  pub as_set : (slot : ℕ) (instance : Instance) → slot < most_slots → frame.identifier ≡ first_identifier + slot
      → instance_in opening.placed slot opening.cycle ≡ Some instance → frame.bytes ≡ sends instance

-- what the nodes offer that were these once the frames `base` had started, and have heard each frame since then
abbrev pub live_offers : (Instance → List ℕ) → List Owner → List Request → Opening → List TimedFrame → List NodeState → Offers
live_offers sends owners requests opening base nodes past at frame =
    OffersLive sends owners requests opening (heard_by (drop (length base) past) nodes) past at frame

-- the trigger frames of an order were sent whole, the first one at the start of its cycle and each other one at once behind
-- the one before it, and all nodes heard them
pub record IsTriggered (layout : CycleLayout) (order : Order) (nodes : List NodeState) (sent : List TimedFrame) : Type 0 where
  pub are : map (λ one. one.frame) sent ≡ triggers_with layout.slots order.cycle order.l order.mask
  pub at_once : AreAtOnce (order.cycle * layout.cycle) sent
  pub whole : All (λ one. one.len ≡ wire_length one.frame) sent
  pub known : All IsNode (heard_by sent nodes)

-- such a cycle: its frames are those that are offered in it where all requests are known. Behind it the nodes are a bus
-- again, before the next cycle, and each frame of a request was one of those that had arrived
pub record IsLiveCycle (sends : Instance → List ℕ) (layout : CycleLayout) (owners : List Owner) (requests : List Request)
    (placed : List Placed) (past : List TimedFrame) (order : Order) (nodes : List NodeState) (sent later : List TimedFrame)
    : Type 0 where
  pub follows : Follows (offered_in sends layout requests (opening_of order placed)) past
      (order.cycle * layout.cycle) ((order.cycle + 1) * layout.cycle) (sent ++ later)
  pub bus : IsBus layout owners requests placed (past ++ (sent ++ later)) (order.cycle + 1) (heard_by (sent ++ later) nodes)
  pub are : All IsNode (heard_by (sent ++ later) nodes)
  pub were : WereRequests (arrived_by (free_after (free_after (order.cycle * layout.cycle) sent) later) requests)
      (past ++ (sent ++ later))
