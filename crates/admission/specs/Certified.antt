-- *Certificates of a table*: what is answered where a certificate is asked for. Cycles are elementary cycles, counted
-- from 0.
use Rattle.std.specs.Prelude.{◌≡◌, ℕ, ◌+◌, ◌-◌, List, ◌++◌}
use Rattle.requirement_table.specs.declared.entries.Placed.{Placed}
use Rattle.planner_policies.specs.Plan.{HasNoMiss, IsMissAt, Planning}
use Rattle.planner_policies.specs.declared.state.Miss.{Miss as MissedInstance}
use Rattle.planner_policies.specs.declared.state.PlanState.{PlanState}
use Rattle.plan_check.specs.Certificate.{CertificateView, length_of}
use Rattle.admission_rules.specs.declared.Rules.{Rules}
use Rattle.admission.specs.declared.certify_fault.CertifyFault.{CertifyFault}
use Rattle.admission.specs.declared.certify_fault.CertifyFault.TheVariants.{Memory, Miss, NoRepeat}
use Rattle.admission.specs.declared.verdict.Verdict.TheVariants.{Accepted, Horizon, Miss as Missed}
use Rattle.admission.specs.Verdict.{IsVerdictOnPlan, masks_of, plan_from}

-- the cycle behind the last one that is listed
abbrev pub end_of : CertificateView → ℕ
end_of certificate = certificate.first + length_of certificate

-- the certificate begins at cycle 0 with nothing pending. It lists the masks of the cycles that were opened before the
-- state, and behind them the plan that goes on from the state. The part that is repeated is the recurrence of that
-- plan, which is found within the horizon
pub record IsCertificateOf (rules : Rules) (placed : List Placed) (opened : List ℕ)
    (state : PlanState) (certificate : CertificateView) : Type 0 where
  pub start : certificate.from ≡ 0
  pub nothing_pending : certificate.pending ≡ 0
  pub listed : certificate.masks
      ≡ opened ++ masks_of (plan_from rules placed state.cycle state.pending) (end_of certificate - state.cycle)
  pub repeats : IsVerdictOnPlan rules.horizon (plan_from rules placed state.cycle state.pending)
      (Accepted certificate.first (length_of certificate))

-- the plan that goes on from the state was planned up to the end of its first repeat, which is found within the horizon
-- and begins in the cycle `first`
pub record IsRepeated (rules : Rules) (placed : List Placed) (state : PlanState) (first : ℕ) (masks : List ℕ) : Type 0 where
  pub length : ℕ
  pub listed : masks ≡ masks_of (plan_from rules placed state.cycle state.pending) (first - state.cycle + length)
  pub repeats : IsVerdictOnPlan rules.horizon (plan_from rules placed state.cycle state.pending) (Accepted first length)

-- the certificate begins at the state, with the slots that are pending before it. It lists the plan that goes on from
-- there, and the part that is repeated is the recurrence of that plan, which is found within the horizon
pub record IsCertificateFrom (rules : Rules) (placed : List Placed) (state : PlanState) (certificate : CertificateView)
    : Type 0 where
  pub start : certificate.from ≡ state.cycle
  pub before : certificate.pending ≡ state.pending
  pub listed : certificate.masks
      ≡ masks_of (plan_from rules placed state.cycle state.pending) (end_of certificate - state.cycle)
  pub repeats : IsVerdictOnPlan rules.horizon (plan_from rules placed state.cycle state.pending)
      (Accepted certificate.first (length_of certificate))

-- there is no certificate exactly where the plan that goes on has a first miss within the horizon, or else no
-- recurrence within it; want of memory says nothing
abbrev pub IsFaultOnPlan : ℕ → Planning → CertifyFault → Type 0
IsFaultOnPlan horizon plan (Miss slot release cycle) = IsVerdictOnPlan horizon plan (Missed slot release cycle)
IsFaultOnPlan horizon plan (NoRepeat walked) = IsVerdictOnPlan horizon plan (Horizon plan.from walked)
IsFaultOnPlan horizon plan Memory = Unit {0}

-- the first miss of a planning is in the cycle behind so many cycles
pub record IsMissBehind (plan : Planning) (number : ℕ) (miss : MissedInstance) : Type 0 where
  pub cycle : miss.cycle ≡ plan.from + number
  pub none_before : HasNoMiss plan number
  pub at : IsMissAt plan number miss.slot miss.release
