use Rattle.std.proofs.Common.{◌≡◌, cond, arith, rules}
use Rattle.master_core.specs.History.{is_open}
use Rattle.bus_trace.proofs.Shared.{one_or_none}
use Rattle.plan_report.proofs.Widths.{loaded-next, passed-later}
use Rattle.plan_report.proofs.load.opened_load.Goals as goal

pub loop-event-preserved : goal.loop-event-preserved
loop-event-preserved c =
    let step : c.from-next.result ≡ cond (is_open c.event-item.result) 1 0 = search rules in
    let one = one_or_none (is_open c.event-item.result) in
    let near = c.loop-event.invariant.near in
    let few = c.loop-event.invariant.few in
    let more = c.with_event-load.ensures.sum in
    record {
      loaded = loaded-next c.args.placed.now c.args.history.now c.loop-event.load c.with_event-load.result c.loop-event.next c.from-next.result
          c.loop-event.event-index c.event-item.result c.loop-event-test.true c.event-item.is step c.with_event-load.ensures.load c.loop-event.invariant.loaded;
      few = omega arith;
      near = omega arith;
      passed = passed-later _ _ c.loop-event.next _ (omega arith) c.with_event-load.ensures.passed;
      known = λ k from below. c.with_event-load.ensures.known k (omega (arith, from)) below;
    }
