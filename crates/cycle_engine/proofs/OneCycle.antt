-- One cycle, as its order and the nodes make it.
use Rattle.std.proofs.Common.{◌≡◌, ℕ, ◌+◌, ◌*◌, ◌^◌, ◌<◌, ◌≤◌, List, [], ◌++◌, All, refl, subst, arith}
use Rattle.std.proofs.Math.Nat.{add-mul}
use Rattle.can_frame.specs.DataFrame.{DataFrame}
use Rattle.can_frame.specs.declared.data_frame.TimedFrame.{TimedFrame}
use Rattle.cycle_layout.specs.Layout.{CycleLayout, IsLayout}
use Rattle.requirement_table.specs.declared.entries.Order.{Order}
use Rattle.requirement_table.specs.declared.entries.Placed.{Placed}
use Rattle.requirement_table.specs.Instance.{bytes_of}
use Rattle.trigger_codec.specs.Bytes.{triggers_with}
use Rattle.async_window.specs.declared.request.Owner.{Owner}
use Rattle.async_window.specs.declared.request.Request.{Request}
use Rattle.bus_line.specs.Trace.{Follows}
use Rattle.bus_line.specs.Stations.{offers_of}
use Rattle.node_model.specs.Node.{IsNode, NodeState}
use Rattle.cycle_engine.specs.Joint.{BeginsWithTriggers}
use Rattle.cycle_engine.specs.Nodes.{IsBefore, IsBus, heard_by, opening_of}
use Rattle.cycle_engine.specs.Offered.{offered_in}
use Rattle.cycle_engine.specs.Stations.{announced, cycle_line}
use Rattle.cycle_engine.proofs.Belongs.{known-senders}
use Rattle.cycle_engine.proofs.TriggerFrames.{frames_long}
use Rattle.cycle_engine.proofs.Announced.{can-be-heard, go-first}
use Rattle.cycle_engine.proofs.NextCycle.{AtCycle-behind}
use Rattle.cycle_engine.proofs.Along.{Follows-cycle, Standing, Waiting}

-- what nodes announce, by its parts
pub announced-same : (layout also : CycleLayout) (at later : ℕ) (frames others : List DataFrame) (nodes same : List NodeState)
    → layout ≡ also → at ≡ later → frames ≡ others → nodes ≡ same → announced layout at frames nodes ≡ announced also later others same
announced-same layout also at later frames others nodes same a b c d = grind arith

-- the frames are those that arbitration decides between the nodes and the trigger frames of an order's cycle
abbrev pub RunsOrder : Order → List TimedFrame → CycleLayout → List NodeState → Type 0
RunsOrder order frames layout nodes =
    Follows (offers_of cycle_line (announced layout (order.cycle * layout.cycle) (triggers_with layout.slots order.cycle order.l order.mask) nodes))
    [] (order.cycle * layout.cycle) ((order.cycle + 1) * layout.cycle) frames

-- nodes before the cycle of an order, which is run
pub record IsRun (layout : CycleLayout) (order : Order) (nodes : List NodeState) (frames : List TimedFrame) : Type 0 where
  pub is_layout : IsLayout layout
  pub early : order.cycle < 2 ^ 42
  pub window : order.l ≤ layout.window
  pub mask : order.mask < 2 ^ layout.slots
  pub are : All IsNode nodes
  pub layouts : All (λ node. node.layout ≡ layout) nodes
  pub next : All (λ node. node.next ≡ order.cycle) nodes
  pub runs : RunsOrder order frames layout nodes

-- the next cycle of the nodes is one more behind it
pub cycle_next : (layout : CycleLayout) (order : Order) (nodes : List NodeState) (frames : List TimedFrame) → IsRun layout order nodes frames
    → All (λ node. node.next ≡ order.cycle + 1) (heard_by frames nodes)
cycle_next layout order nodes frames run =
    let long = frames_long layout.slots order.cycle order.l order.mask in
    AtCycle-behind layout ((order.cycle + 1) * layout.cycle) nodes frames (order.cycle * layout.cycle) order.cycle order.l order.mask
    (omega (arith, long, add-mul order.cycle 1 layout.cycle, run.is_layout.room))
    (can-be-heard layout order.cycle order.l order.mask nodes run.early run.are run.layouts run.next) run.next run.runs

-- the frames begin with the trigger frames
pub begins : (layout : CycleLayout) (order : Order) (nodes : List NodeState) (frames : List TimedFrame) → IsRun layout order nodes frames
    → BeginsWithTriggers layout order frames
begins layout order nodes frames run =
    let start = order.cycle * layout.cycle in
    let triggers = triggers_with layout.slots order.cycle order.l order.mask in
    let long = frames_long layout.slots order.cycle order.l order.mask in
    let cut = go-first layout start triggers nodes (announced layout start triggers nodes) [] start ((order.cycle + 1) * layout.cycle) frames
    (omega arith) (omega (arith, long, add-mul order.cycle 1 layout.cycle, run.is_layout.room))
    (can-be-heard layout order.cycle order.l order.mask nodes run.early run.are run.layouts run.next) refl run.runs in
    record { sent = cut.sent; later = cut.later; split = cut.split; are = cut.are }

module _ (layout : CycleLayout) (order : Order) (nodes : List NodeState) (frames : List TimedFrame) (run : IsRun layout order nodes frames)
    (owners : List Owner) (requests : List Request) (placed : List Placed) (past : List TimedFrame) (before : IsBefore layout owners requests placed past order nodes) where
  is_waiting : Waiting layout owners requests (opening_of order placed) past nodes
  is_waiting = record {
    is_layout = run.is_layout;
    cycle = run.early;
    width = subst (λ l. l ≤ layout.window) before.fits.width run.window;
    mask = run.mask;
    before = before.before;
    are = run.are;
    stand = before.bus.stand;
    senders = known-senders layout owners requests past order.cycle (opening_of order placed) nodes before.bus.well_placed before.bus.stand before.fits.present;
    owned = before.bus.owned;
  }

  both : Follows (offered_in bytes_of layout requests (opening_of order placed)) past (order.cycle * layout.cycle) ((order.cycle + 1) * layout.cycle) frames
      × Standing layout owners requests (opening_of order placed) (past ++ frames) (heard_by frames nodes)
  both =
      Follows-cycle layout owners requests (opening_of order placed) before.bus.are_owners before.bus.well_placed past nodes is_waiting frames
      (grind arith)

  pub cycle_runs : Follows (offered_in bytes_of layout requests (opening_of order placed)) past (order.cycle * layout.cycle) ((order.cycle + 1) * layout.cycle) frames
  cycle_runs = both.0

  pub cycle_stands : IsBus layout owners requests placed (past ++ frames) (order.cycle + 1) (heard_by frames nodes)
  cycle_stands = grind (arith, both)
