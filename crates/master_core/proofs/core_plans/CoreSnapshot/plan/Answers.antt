use Rattle.std.proofs.Common.{refl, subst}
use Rattle.change_protocol.specs.Applied.{applied}
use Rattle.admission.specs.Verdict.{IsInTime, IsTakenWhereDue, plan_from}
use Rattle.master_core.specs.declared.apart.Snapshot.{Snapshot}
use Rattle.master_core.specs.Answers.{decision_of}
use Rattle.master_core.specs.CorePlans.{IsCorePlan}
use Rattle.master_core.proofs.core_plans.CoreSnapshot.plan.Goals as goal

pub returns-in-Ok-clause-planned : goal.returns-in-Ok-clause-planned
returns-in-Ok-clause-planned c =
    let planned = rw c.as_slice-placed.ensures.list at c.in-Ok.ensures.planned in
    subst
    (λ (s : Snapshot). IsCorePlan s c.args.change.now (record {
      snapshot = c.self.inside.snapshot;
      change = c.in-Ok.answer.change;
      decision = decision_of c.in-Ok.answer;
    }))
    c.self.view_is
    (record { snapshot_is = refl; asked = c.in-Ok.ensures.change; decided = rw c.in-Ok.ensures.change at planned.decided })

pub returns-in-Ok-clause-complete : goal.returns-in-Ok-clause-complete
returns-in-Ok-clause-complete c =
    let due = rw c.as_slice-placed.ensures.list at c.in-Ok.ensures.complete in
    subst
    (λ (s : Snapshot). IsInTime s.rules s.placed s.state.cycle c.args.change.now
    → IsTakenWhereDue s.rules (plan_from s.rules (applied s.placed c.args.change.now) s.state.cycle s.state.pending) c.in-Ok.answer.verdict)
    c.self.view_is due
