use Rattle.std.proofs.lemmas.Result.{IfOk-weaker, on_err_weaker}
use Rattle.live_master.specs.Calls.{AfterWaiting, Settled, Submitted}
use Rattle.live_master.proofs.Calling.{faulted_waiting, planned_here, submitted_waiting}
use Rattle.live_master.proofs.live.LiveMaster.submit.Goals as goal

pub settle-requires-clause-planned : goal.settle-requires-clause-planned
settle-requires-clause-planned g c = planned_here _ _ _ _ _ _ c.in_ok-snapshot.ensures.taken.made c.in_ok-planned.ensures.planned

pub returns-clause-submitted : goal.returns-clause-submitted
returns-clause-submitted g c =
    IfOk-weaker c.settle.result
    (λ verdict. AfterWaiting (λ one other. Settled one other c.args.change.now c.in_ok-planned.planned verdict) c.snapshot.new.pass c.settle.new.pass)
    (λ verdict. Submitted AfterWaiting c.args.self.now.fixed c.args.pass.now c.settle.new.pass c.args.change.now verdict)
    (λ verdict is. submitted_waiting _ _ _ _ _ _ _ verdict c.in_ok-snapshot.ensures.taken c.in_ok-planned.ensures.planned is) c.settle.ensures.settled

pub returns-clause-memory : goal.returns-clause-memory
returns-clause-memory g c =
    on_err_weaker c.settle.result (λ back. faulted_waiting _ _ _ _ _ c.in_ok-snapshot.ensures.taken back) c.settle.ensures.memory
