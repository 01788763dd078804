-- What keeps a dispatcher's history and bus under way.
use Rattle.std.proofs.Common.{◌≡◌, ◌++◌, List, [], ◌∷◌, sym, subst}
use Rattle.can_frame.specs.declared.data_frame.TimedFrame.{TimedFrame}
use Rattle.requirement_table.specs.declared.entries.Order.{Order}
use Rattle.turn_lock.specs.Passes.{Lock}
use Rattle.admission_rules.specs.declared.Rules.{Rules}
use Rattle.master_core.specs.declared.event.Event.{Event}
use Rattle.master_core.specs.declared.event.Event.TheVariants.{Open}
use Rattle.master_core.specs.Orders.{IsOrderFor}
use Rattle.master_core.specs.History.{IsLegal}
use Rattle.kept_run.specs.Progress.{IsOnTheWay}
use Rattle.kept_run.specs.Setting.{Setting}
use Rattle.kept_run.proofs.Shared.{CallsBetween, CyclesRun, RanOrder, way-called, way-run}
use Rattle.live_run.specs.declared.dispatching.LiveBus.{LiveBus}
use Rattle.live_run.specs.Running.{CanDispatch, HasOpened, IsBeforeOrder, IsRunning}

-- what the dispatcher found when it opened a cycle is on the way, and its order is that of it
pub found : CallsBetween → (setting : Setting) (shared : Lock Rules) (old new : List Event) (order : Order) (bus : LiveBus)
    → (opened : HasOpened shared.fixed old new order) → IsRunning setting shared old bus → IsBeforeOrder setting (old ++ opened.calls) order bus
found laws setting shared old new order bus opened running =
    let legal = subst (λ r. IsLegal r (old ++ opened.calls)) running.same_rules opened.legal in
    record {
      way = way-called laws setting old opened.calls bus.trace.items bus.nodes opened.closed legal running.way;
      ordered = subst (λ r. IsOrderFor r (old ++ opened.calls) order) running.same_rules opened.ordered;
    }

-- so in some setting a cycle of it can be run
pub can_run : CallsBetween → (shared : Lock Rules) (old new : List Event) (order : Order) (bus : LiveBus)
    → HasOpened shared.fixed old new order → CanDispatch shared old bus → (setting : Setting) × (history : List Event) × IsBeforeOrder setting history order bus
can_run laws shared old new order bus opened running =
    (running.0, old ++ opened.calls, found laws running.0 shared old new order bus opened running.1)

-- and once it was run, the dispatcher's history and bus are running
pub has_run : CallsBetween → (setting : Setting) (shared : Lock Rules) (old new : List Event) (order : Order) (bus after : LiveBus)
    → HasOpened shared.fixed old new order
    → ((history : List Event) → IsBeforeOrder setting history order bus
    → IsOnTheWay setting (history ++ Open order.cycle order.mask ∷ []) after.trace.items after.nodes)
    → IsRunning setting shared old bus → IsRunning setting shared new after
unfolding found
has_run laws setting shared old new order bus after opened ran running = record {
  same_rules = running.same_rules;
  way = subst (λ h. IsOnTheWay setting h after.trace.items after.nodes) (sym opened.seen)
      (ran (old ++ opened.calls) (found laws setting shared old new order bus opened running));
}

-- a bus that has run a cycle by the order of a history is on the way behind its opening
pub ran : CyclesRun → (setting : Setting) (history : List Event) (order : Order) (bus after : LiveBus) (frames : List TimedFrame)
    → RanOrder order bus.nodes after.nodes frames → after.trace.items ≡ bus.trace.items ++ frames
    → IsBeforeOrder setting history order bus → IsOnTheWay setting (history ++ Open order.cycle order.mask ∷ []) after.trace.items after.nodes
ran laws setting history order bus after frames did trace stands =
    subst (λ t. IsOnTheWay setting (history ++ Open order.cycle order.mask ∷ []) t after.nodes) (sym trace)
    (way-run laws setting history bus.trace.items frames bus.nodes after.nodes order stands.ordered did stands.way)
