use Rattle.std.proofs.Common.{◌≡◌, subst}
use Rattle.planner_policies.specs.Plan.{IsValid}
use Rattle.master_core.specs.Journals.{LeanView}
use Rattle.master_core.specs.Kept.{state_after}
use Rattle.master_core.proofs.KeptPlans.{state-is}
use Rattle.master_core.proofs.lean.LeanMaster.state.Goals as goal

pub returns-clause-state : goal.returns-clause-state
returns-clause-state c =
    subst (λ (v : LeanView). c.state.result ≡ state_after v.rules v.history) c.self.view_is
    (state-is _ _ c.self.invariant.0 c.state.result c.state.ensures.cycle c.state.ensures.pending)

pub returns-clause-valid : goal.returns-clause-valid
returns-clause-valid c =
    subst (λ (v : LeanView). IsValid v.placed c.state.result.cycle c.state.result.pending) c.self.view_is
    (rw (c.state.ensures.cycle, c.state.ensures.pending) c.known.ensures.core.safe.safe.held)
