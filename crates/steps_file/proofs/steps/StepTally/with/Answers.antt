use Rattle.std.proofs.lemmas.Result.{IfOk-weaker}
use Rattle.steps_file.proofs.StepLines.{counts_change, counts_cycle, counts_look, counts_operation}
use Rattle.steps_file.proofs.steps.StepTally.with.Goals as goal

pub returns-in-Cycle-clause-counts : goal.returns-in-Cycle-clause-counts
returns-in-Cycle-clause-counts c lines counts =
    rw c.in-Cycle.is (IfOk-weaker c.with_cycles.result _ _ (λ tally e. rw e (counts_cycle lines c.args.self counts c.in-Cycle.count)) c.with_cycles.ensures.ok)

pub returns-in-Look-clause-counts : goal.returns-in-Look-clause-counts
returns-in-Look-clause-counts c lines counts =
    rw c.in-Look.is (IfOk-weaker c.with_look.result _ _ (λ tally e. rw e (counts_look lines c.args.self counts c.in-Look.caller)) c.with_look.ensures.ok)

pub returns-in-Begins-clause-counts : goal.returns-in-Begins-clause-counts
returns-in-Begins-clause-counts c lines counts =
    rw c.in-Begins.is (IfOk-weaker c.with_change.result _ _ (λ tally e. rw e (counts_change lines c.args.self counts c.in-Begins.caller c.in-Begins.start c.in-Begins.op)) c.with_change.ensures.ok)

pub returns-in-Joins-clause-counts : goal.returns-in-Joins-clause-counts
returns-in-Joins-clause-counts c lines counts =
    rw c.in-Joins.is (IfOk-weaker c.with_operation.result _ _ (λ tally e. rw e (counts_operation lines c.args.self counts c.in-Joins.op)) c.with_operation.ensures.ok)
