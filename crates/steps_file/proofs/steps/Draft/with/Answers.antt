use Rattle.std.proofs.Common.{refl}
use Rattle.change_protocol.specs.declared.operations.Act.TheVariants as act
use Rattle.steps_file.proofs.StepDrafts.{both_ok, drafts_begins, drafts_joins, drafts_step}
use Rattle.steps_file.specs.declared.steps.Step.TheVariants as step
use Rattle.steps_file.proofs.steps.Draft.with.Goals as goal

pub returns-in-Cycle-clause-drafts : goal.returns-in-Cycle-clause-drafts
returns-in-Cycle-clause-drafts c lines drafts =
    let next = step.Cycle c.in-Cycle.count in
    rw c.in-Cycle.is (both_ok _ _ _ c.with_step.result (λ new steps asked. drafts_step lines c.args.self new _ next drafts refl tt refl steps asked) c.with_step.ensures.steps c.with_step.ensures.asked)

pub returns-in-Look-clause-drafts : goal.returns-in-Look-clause-drafts
returns-in-Look-clause-drafts c lines drafts =
    let next = step.Act c.in-Look.caller act.Look in
    rw c.in-Look.is (both_ok _ _ _ c.with_step-in-Look.result (λ new steps asked. drafts_step lines c.args.self new _ next drafts refl tt refl steps asked) c.with_step-in-Look.ensures.steps c.with_step-in-Look.ensures.asked)

pub returns-in_ok-asked-in-Begins-clause-drafts : goal.returns-in_ok-asked-in-Begins-clause-drafts
returns-in_ok-asked-in-Begins-clause-drafts c lines drafts =
    rw c.in-Begins.is (both_ok _ _ _ c.with_change.result (λ new steps asked. drafts_begins lines c.args.self new c.in_ok-asked-in-Begins.asked c.in-Begins.caller c.in-Begins.start c.in-Begins.op drafts c.in_ok-asked-in-Begins.ensures.ok steps asked) c.with_change.ensures.steps c.with_change.ensures.asked)

pub returns-in-Joins-clause-drafts : goal.returns-in-Joins-clause-drafts
returns-in-Joins-clause-drafts c lines drafts =
    rw c.in-Joins.is (both_ok _ _ _ c.with_operation.result (λ new steps asked. drafts_joins lines c.args.self new c.in-Joins.op drafts steps asked) c.with_operation.ensures.steps c.with_operation.ensures.asked)
