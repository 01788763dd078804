-- What each call keeps of a master that need not keep its history.
use Rattle.std.proofs.Common.{◌≡◌, ℕ, Bool, List, subst, arith}
use Rattle.requirement_table.specs.declared.entries.Placed.{Placed}
use Rattle.change_protocol.specs.declared.operations.Change.{Change}
use Rattle.planner_policies.specs.Plan.{pending_at}
use Rattle.admission.specs.declared.verdict.Verdict.{Verdict}
use Rattle.admission.specs.Verdict.{IsVerdict}
use Rattle.master_core.specs.declared.event.Event.{Event}
use Rattle.master_core.specs.Cores.{CoreView, IsCore, IsStateAs}
use Rattle.master_core.specs.History.{IsRightAnswer, next_of, placed_of, plan_of}
use Rattle.master_core.proofs.Certificates.{IsDue}
use Rattle.master_core.proofs.CorePlans.{DueLaw}
use Rattle.master_core.proofs.Legal.{sound-of_legal, valid-of_legal}

-- a change that is in time is taken where that is due
pub lean-due : DueLaw → (prunes : Bool) (history : List Event) (core : CoreView) → IsCore core → IsStateAs prunes history core
    → (change : Change) (from : ℕ) (verdict : Verdict) (trail : List ℕ) → from ≡ next_of history → IsRightAnswer core.rules history change from verdict trail
    → IsDue core.rules history change verdict
lean-due taken prunes history core is of change from verdict trail here right ahead =
    let whole : List Placed = placed_of history in
    let next : ℕ = next_of history in
    taken core.rules whole (pending_at (plan_of core.rules whole) next) next next change verdict is.safe.in_range
    (sound-of_legal core.rules history of.legal).well_placed right.types (valid-of_legal core.rules history of.legal) (omega arith) ahead
    (subst (λ (n : ℕ). IsVerdict core.rules whole (pending_at (plan_of core.rules whole) n) n next change verdict) here right.answer)
