use Rattle.std.proofs.Common.{◌∙◌}
use Rattle.live_run.specs.declared.dispatching.LiveBus.{LiveBus}
use Rattle.live_run.specs.Running.{IsSameBus}
use Rattle.live_run.proofs.Cycles.{can_run, has_run}
use Rattle.live_run.proofs.Openings.{can_run-same, running-same, running-seen}
use Rattle.live_run.proofs.dispatching.open_cycle.Goals as goal

pub run_order-requires-clause-before : goal.run_order-requires-clause-before
run_order-requires-clause-before g c =
    let bus : LiveBus = record { nodes = c.open_next.new.nodes; trace = c.reserve_frames.new.bus.trace } in
    let same : IsSameBus c.args.bus.now bus = record {
      trace = c.reserve_frames.ensures.same.trace;
      layout = c.open_next.ensures.layout ∙ c.reserve_frames.ensures.same.layout;
      states = c.open_next.ensures.same ∙ c.reserve_frames.ensures.same.states;
    } in
    can_run (record { under_way = c.calls_between.ensures.under_way; ready = c.calls_between.ensures.ready })
    c.args.shared.now c.args.pass.now.view.seen c.open_next.new.pass.view.seen c.in_ok-order.order bus
    c.in_ok-order.ensures.opened (can_run-same c.args.shared.now c.args.pass.now.view.seen c.args.bus.now bus same c.requires.running)

pub returns-in_err-reserve_frames-clause-running : goal.returns-in_err-reserve_frames-clause-running
returns-in_err-reserve_frames-clause-running g c = λ setting running.
    running-same setting c.args.shared.now c.args.pass.now.view.seen c.args.bus.now c.reserve_frames.new.bus c.reserve_frames.ensures.same running

pub returns-in_err-order-clause-running : goal.returns-in_err-order-clause-running
returns-in_err-order-clause-running g c = λ setting running.
    let bus : LiveBus = record { nodes = c.open_next.new.nodes; trace = c.reserve_frames.new.bus.trace } in
    let same : IsSameBus c.args.bus.now bus = record {
      trace = c.reserve_frames.ensures.same.trace;
      layout = c.open_next.ensures.layout ∙ c.reserve_frames.ensures.same.layout;
      states = c.open_next.ensures.same ∙ c.reserve_frames.ensures.same.states;
    } in
    running-seen (record { under_way = c.calls_between.ensures.under_way; ready = c.calls_between.ensures.ready })
    setting c.args.shared.now c.args.pass.now.view.seen c.open_next.new.pass.view.seen bus c.in_err-order.ensures.memory
    (running-same setting c.args.shared.now c.args.pass.now.view.seen c.args.bus.now bus same running)

pub returns-clause-running : goal.returns-clause-running
returns-clause-running g c = λ setting running.
    let bus : LiveBus = record { nodes = c.open_next.new.nodes; trace = c.reserve_frames.new.bus.trace } in
    let same : IsSameBus c.args.bus.now bus = record {
      trace = c.reserve_frames.ensures.same.trace;
      layout = c.open_next.ensures.layout ∙ c.reserve_frames.ensures.same.layout;
      states = c.open_next.ensures.same ∙ c.reserve_frames.ensures.same.states;
    } in
    has_run (record { under_way = c.calls_between.ensures.under_way; ready = c.calls_between.ensures.ready })
    setting c.args.shared.now c.args.pass.now.view.seen c.open_next.new.pass.view.seen c.in_ok-order.order bus c.run_order.new.bus
    c.in_ok-order.ensures.opened (λ history before. c.run_order.ensures.ran setting history before)
    (running-same setting c.args.shared.now c.args.pass.now.view.seen c.args.bus.now bus same running)
