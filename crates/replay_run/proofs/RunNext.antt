-- A cycle that was run by the order of its history follows the trace.
use Rattle.std.proofs.Common.{◌≡◌, ◌+◌, ◌*◌, List, [], ◌∷◌, ◌++◌, subst}
use Rattle.can_frame.specs.declared.data_frame.TimedFrame.{TimedFrame}
use Rattle.cycle_layout.specs.Layout.{CycleLayout}
use Rattle.requirement_table.specs.declared.entries.Order.{Order}
use Rattle.requirement_table.specs.Instance.{bytes_of}
use Rattle.bus_line.specs.Trace.{Follows}
use Rattle.cycle_engine.specs.Nodes.{opening_of}
use Rattle.cycle_engine.specs.Offered.{offered_in}
use Rattle.master_core.specs.declared.event.Event.TheVariants.{Open}
use Rattle.master_core.specs.History.{placed_of}
use Rattle.master_core.specs.Orders.{IsOrderFor}
use Rattle.kept_run.proofs.Shared.{CyclesRun, RanOrder, ran-follows}
use Rattle.kept_run.specs.Setting.{Setting}
use Rattle.replay_run.specs.declared.bus.Bus.{Bus}
use Rattle.replay_run.specs.Progress.{IsGoing, IsRunNext}

pub run-next : CyclesRun → (setting : Setting) (trace : List TimedFrame) (run after : Bus) (order : Order) (frames : List TimedFrame)
    → IsOrderFor run.master.rules run.master.history order → RanOrder order run.nodes after.nodes frames
    → after.master.history ≡ run.master.history ++ Open order.cycle order.mask ∷ []
    → IsGoing setting trace run → IsRunNext setting trace run after frames
run-next laws setting trace run after order frames right did history going =
    let way = going.way in
    let ordered : IsOrderFor setting.rules run.master.history order = subst (λ r. IsOrderFor r run.master.history order) going.same_rules right in
    let follows = ran-follows laws setting run.master.history trace frames run.nodes after.nodes order ordered did way in
    record {
      cycle = order.cycle;
      mask = order.mask;
      history = history;
      follows = subst (λ (l : CycleLayout). Follows (offered_in bytes_of l setting.requests (opening_of order (placed_of run.master.history))) trace
          (order.cycle * l.cycle) ((order.cycle + 1) * l.cycle) frames) way.ready.same_layout follows;
    }
