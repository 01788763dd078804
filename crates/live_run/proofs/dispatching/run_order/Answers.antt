use Rattle.std.proofs.Common.{ap, arith, cond, length, ◌∙◌, ◌++◌}
use Rattle.std.specs.Result.{IsOk}
use Rattle.live_run.proofs.Cycles.{ran}
use Rattle.live_run.proofs.dispatching.run_order.Goals as goal

pub returns-clause-ran : goal.returns-clause-ran
returns-clause-ran c = λ setting history before.
    let ok : IsOk c.extend_from_slice.result =
    c.extend_from_slice.ensures.succeeds (omega (arith, c.requires.room, c.run_cycle_in.ensures.few, ap length c.frames.ensures.list)) in
    let trace = c.extend_from_slice.ensures.items ∙ ap (λ b. cond b (c.args.bus.now.trace.items ++ c.frames.result.now) c.args.bus.now.trace.items) ok
    ∙ ap (λ frames. c.args.bus.now.trace.items ++ frames) c.frames.ensures.list in
    ran (record { before = c.orders.ensures.before; same_offers = c.cycles_run.ensures.same_offers; under_way = c.cycles_run.ensures.under_way; ready = c.cycles_run.ensures.ready })
    setting history c.args.order.now c.args.bus.now (record { nodes = c.run_cycle_in.new.nodes; trace = c.extend_from_slice.new.self })
    c.run_cycle_in.new.segment
    (record {
      layout = c.run_cycle_in.ensures.layout;
      heard = c.run_cycle_in.ensures.heard;
      runs = λ owners requests placed past stands. c.run_cycle_in.ensures.runs owners requests placed past stands;
      stand = λ owners requests placed past stands. c.run_cycle_in.ensures.stand owners requests placed past stands;
    })
    trace
    before
