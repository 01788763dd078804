-- *Certificates* of the table after a history. Cycles are elementary cycles, counted from 0.
use Rattle.std.specs.Prelude.{◌≡◌, ℕ, ◌+◌, ◌≤◌, List, Option, Some, None, IfSome, fold, if◌then◌else◌, nat_eq}
use Rattle.planner_policies.specs.Plan.{Planning, pending_at}
use Rattle.plan_check.specs.Certificate.{CertificateView, length_of}
use Rattle.admission_rules.specs.declared.Rules.{Rules}
use Rattle.admission.specs.Certified.{end_of}
use Rattle.admission.specs.Recurrence.{IsRecurrence}
use Rattle.admission.specs.Verdict.{IsVerdictOnPlan, masks_of, plan_from}
use Rattle.admission.specs.declared.verdict.Verdict.{Verdict}
use Rattle.admission.specs.declared.verdict.Verdict.TheVariants.{Malformed, Passed, Miss, Horizon, Accepted}
use Rattle.master_core.specs.declared.event.Event.{Event}
use Rattle.master_core.specs.declared.event.Event.TheVariants.{Submit, Look, Open}
use Rattle.master_core.specs.History.{next_of, placed_of, plan_of}

-- the planning of the placed entries that goes on from the next cycle, with what is pending before it in their plan
abbrev pub onward_of : Rules → List Event → Planning
onward_of rules history =
    plan_from rules (placed_of history) (next_of history)
    (pending_at (plan_of rules (placed_of history)) (next_of history))

-- the certificate begins at cycle 0 with nothing pending. It lists the plan of the placed entries, and the part that is
-- repeated is the recurrence of the planning that goes on from the next cycle, which is found within the horizon
pub record IsCertificateOfPlan (rules : Rules) (history : List Event) (certificate : CertificateView) : Type 0 where
  pub start : certificate.from ≡ 0
  pub nothing_pending : certificate.pending ≡ 0
  pub listed : certificate.masks ≡ masks_of (plan_of rules (placed_of history)) (end_of certificate)
  pub repeats : IsRecurrence (onward_of rules history) certificate.first (length_of certificate)
  pub within : end_of certificate ≤ next_of history + rules.horizon

-- what an answer tells of the planning that goes on from the cycle `next`: where that is the cycle from which an accepted
-- change was planned, its repeat begins in this cycle and has so many. An answer that accepts nothing leaves what was told
abbrev pub told_by : ℕ → Option (ℕ × ℕ) → ℕ → Verdict → Option (ℕ × ℕ)
told_by next told from (Malformed op why) = told
told_by next told from (Passed start opened) = told
told_by next told from (Miss slot release cycle) = told
told_by next told from (Horizon first walked) = told
told_by next told from (Accepted first length) = if nat_eq from next then Some (first, length) else None

abbrev pub told_after : ℕ → Option (ℕ × ℕ) → Event → Option (ℕ × ℕ)
told_after next told (Submit caller change from verdict trail) = told_by next told from verdict
told_after next told (Look caller opened) = told
told_after next told (Open cycle mask) = None

abbrev pub told_of : ℕ → List Event → Option (ℕ × ℕ)
told_of next history = fold (told_after next) None history

-- it is so where that is the next cycle after the history
abbrev pub IsRepeatTold : Rules → List Event → ℕ → Option (ℕ × ℕ) → Type 0
IsRepeatTold rules history next told = next_of history ≡ next
    → IfSome told (λ again. IsVerdictOnPlan rules.horizon (onward_of rules history) (Accepted again.0 again.1))
