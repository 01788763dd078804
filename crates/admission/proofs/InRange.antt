-- A certificate of a table is in the range of the checker, and its text in that of the reader.
use Rattle.std.proofs.Common.{◌≡◌, ℕ, zero, suc, ◌+◌, ◌<◌, ◌≤◌, List, [], ◌∷◌, All, length, ap, ◌∙◌, arith}
use Rattle.std.proofs.lemmas.List.Elements.{All-append, All-cons, All-nil}
use Rattle.profile.specs.Limits.{cycles_end, openings_end}
use Rattle.requirement_table.specs.declared.entries.Placed.{Placed}
use Rattle.bit_sets.specs.Sets.{has_bit, most_slots}
use Rattle.bit_sets.proofs.Shared.{has_bit-none, set_of-below}
use Rattle.planner_policies.specs.Plan.{IsValid, Planning, mask_at, planned_at}
use Rattle.planner_policies.specs.declared.state.PlanState.{PlanState}
use Rattle.plan_check.specs.Certificate.{CertificateView, length_of}
use Rattle.plan_check.specs.PlanKept.{HasPending}
use Rattle.plan_check.specs.PlanText.{IsTextOfPlan, mask_bound, plan_text}
use Rattle.plan_check.specs.declared.plan_runs.Version.TheVariants.{Two}
use Rattle.admission_rules.specs.declared.Rules.{Rules}
use Rattle.admission.specs.Certified.{IsCertificateFrom, IsCertificateOf, end_of}
use Rattle.admission.specs.Verdict.{IsRules, masks_of, plan_from}
use Rattle.admission.proofs.Listed.{masks-length}

-- no planned set has a slot that is above all others
pub masks-below : (plan : Planning) (n : ℕ) → All (λ mask. mask < mask_bound Two) (masks_of plan n)
masks-below plan zero = All-nil (λ mask. mask < mask_bound Two)
masks-below plan (suc n) =
    All-append (λ mask. mask < mask_bound Two) (masks_of plan n) (mask_at plan n ∷ []) (masks-below plan n)
    (All-cons (λ mask. mask < mask_bound Two) (mask_at plan n) [] (set_of-below most_slots (planned_at plan n)) (All-nil (λ mask. mask < mask_bound Two)))

module _ (rules : Rules) (placed : List Placed) (opened : List ℕ) (state : PlanState) (certificate : CertificateView)
    (made : IsCertificateOf rules placed opened state certificate) where
  pub nothing-pending : HasPending placed certificate.from (has_bit certificate.pending)
  nothing-pending = grind (arith, has_bit-none)

  module _ (ranges : IsRules rules) (whole : certificate.masks ≡ masks_of (plan_from rules placed 0 0) (end_of certificate)) where
    count : length certificate.masks ≡ certificate.first + length_of certificate
    count = ap length whole ∙ masks-length (plan_from rules placed 0 0) (end_of certificate)

    pub cycles-within : state.cycle ≤ openings_end → certificate.from + length certificate.masks ≤ cycles_end
    cycles-within low = grind (arith, count)

    pub text-read : state.cycle ≤ 100000 → IsTextOfPlan (plan_text certificate) certificate
    text-read low = grind (arith, count, masks-below)

-- the certificate from a state on
module _ (rules : Rules) (placed : List Placed) (state : PlanState) (certificate : CertificateView) (made : IsCertificateFrom rules placed state certificate) where
  pub pending-from : IsValid placed state.cycle state.pending → HasPending placed certificate.from (has_bit certificate.pending)
  pending-from valid = grind arith

  pub cycles-from : IsRules rules → state.cycle ≤ openings_end → certificate.from + length certificate.masks ≤ cycles_end
  cycles-from ranges low = grind (arith, masks-length)
