-- What is answered where a certificate is asked for, by what was found in the walk over the planning.
use Rattle.std.proofs.Common.{◌≡◌, ℕ, ◌+◌, ◌-◌, ◌%◌, ◌<◌, ◌≤◌, false, List, ◌++◌, All, length, sym, ap, ◌∙◌, subst, ⊎_elim, zero-add, arith}
use Rattle.std.proofs.lemmas.Bool.{cases_lt}
use Rattle.requirement_table.specs.declared.entries.Placed.{Placed}
use Rattle.bit_sets.specs.Sets.{most_slots}
use Rattle.requirement_table.specs.Table.{IsWellPlaced}
use Rattle.planner_policies.specs.declared.state.PlanState.{PlanState}
use Rattle.planner_policies.specs.Loop.{RepeatsFrom}
use Rattle.planner_policies.specs.Plan.{HasNoMiss, IsValid, NeverMisses, Planning, is_missed_at, pending_at}
use Rattle.planner_policies.proofs.Shared.{on-missed, on-pending}
use Rattle.plan_check.specs.Certificate.{CertificateView, length_of}
use Rattle.plan_check.specs.PlanKept.{IsTaken}
use Rattle.admission_rules.specs.declared.Rules.{Rules}
use Rattle.admission.specs.declared.verdict.Verdict.TheVariants.{Accepted}
use Rattle.admission.specs.Certified.{IsCertificateFrom, IsCertificateOf, IsRepeated, end_of}
use Rattle.admission.specs.Recurrence.{IsRecurrence}
use Rattle.admission.specs.Verdict.{IsVerdictOnPlan, masks_of, plan_from}
use Rattle.bit_sets.proofs.Shared.{has_bit-none, set_of-same}
use Rattle.admission.proofs.Divided.{divided-along, divided-gap}
use Rattle.admission.proofs.Listed.{later_plan, masks-length, on-masks}
use Rattle.admission.proofs.Once.{repeat-never}
use Rattle.admission.proofs.Onward.{rounds-alike}
use Rattle.admission.proofs.Reduced.{settled-by}
use Rattle.admission.proofs.Row.{row, row-length, row-taken}

-- what is known of a certificate that was made
pub record IsMade (rules : Rules) (placed : List Placed) (opened : List ℕ) (state : PlanState) (made : CertificateView) : Type 0 where
  pub certificate : IsCertificateOf rules placed opened state made
  pub whole : made.masks ≡ masks_of (plan_from rules placed 0 0) (end_of made)
  pub taken : IsTaken placed rules.window made

-- the plan from cycle 0 on goes on behind the opened cycles as it is planned from the state
module _ (rules : Rules) (placed : List Placed) (cycle pending : ℕ) (left : pending ≡ pending_at (plan_from rules placed 0 0) cycle) where
  abbrev whole : Planning
  whole = plan_from rules placed 0 0

  abbrev onward : Planning
  onward = plan_from rules placed cycle pending

  onward-is : later_plan whole cycle ≡ onward
  onward-is = grind (arith, zero-add)

  pub whole-masks : (n : ℕ) → masks_of whole (cycle + n) ≡ masks_of whole cycle ++ masks_of onward n
  whole-masks n = on-masks whole cycle n ∙ ap (λ (plan : Planning). masks_of whole cycle ++ masks_of plan n) onward-is

  pub whole-pending : (n : ℕ) → pending_at whole (cycle + n) ≡ pending_at onward n
  whole-pending n = grind (arith, set_of-same, on-pending, onward-is)

  whole-missed : (n slot : ℕ) → slot < most_slots → is_missed_at whole (cycle + n) slot ≡ is_missed_at onward n slot
  whole-missed n slot known = on-missed whole cycle n slot known ∙ ap (λ (plan : Planning). is_missed_at plan n slot) onward-is

  pub whole-never : HasNoMiss whole cycle → NeverMisses onward → NeverMisses whole
  whole-never none never m slot known =
      ⊎_elim
      (λ (early : m < cycle). none m slot early known)
      (λ (late : cycle ≤ m).
      let at : cycle + (m - cycle) ≡ m = omega arith in
      subst (λ n. is_missed_at whole n slot ≡ false) at (whole-missed (m - cycle) slot known ∙ never (m - cycle) slot known))
      (cases_lt m cycle)

  module _ (opened planned : List ℕ) (b d : ℕ) (well : IsWellPlaced placed) (none : HasNoMiss whole cycle) (opened_is : opened ≡ masks_of whole cycle)
      (number : ℕ) (at : b ≡ cycle + number) (planned_is : planned ≡ masks_of onward (number + d))
      (found : IsVerdictOnPlan rules.horizon onward (Accepted b d)) where
    recurrence : IsRecurrence onward b d
    recurrence = found.1

    some : 0 < d
    some = recurrence.some_cycles

    never : NeverMisses whole
    never = whole-never none (repeat-never onward b d rules.horizon well recurrence found.2 found.0)

    pub listed-whole : opened ++ planned ≡ masks_of whole (b + d)
    listed-whole =
        let end : cycle + (number + d) ≡ b + d = omega arith in
        ap (λ (list : List ℕ). list ++ planned) opened_is
        ∙ ap (λ (list : List ℕ). masks_of whole cycle ++ list) planned_is
        ∙ sym (whole-masks (number + d))
        ∙ ap (masks_of whole) end

    again : pending_at whole b ≡ pending_at whole (b + d)
    again =
        let first = recurrence.at in
        let one : cycle + recurrence.number ≡ b = omega arith in
        let other : cycle + (recurrence.number + d) ≡ b + d = omega arith in
        ap (λ n. pending_at whole n) (sym one)
        ∙ whole-pending recurrence.number
        ∙ recurrence.alike.pending
        ∙ sym (whole-pending (recurrence.number + d))
        ∙ ap (λ n. pending_at whole n) other

    repeats : All (RepeatsFrom b d) placed
    repeats i x within =
        let first = recurrence.at in
        let alike = recurrence.alike in
        let settled = alike.one_settled in
        let by = settled-by cycle placed i x within in
        let gap : cycle + (recurrence.number + d) - (cycle + recurrence.number) ≡ d = omega arith in
        let whole_periods : d % recurrence.period ≡ 0 =
        subst (λ n. n % recurrence.period ≡ 0) gap
        (divided-gap (cycle + recurrence.number) (cycle + (recurrence.number + d)) recurrence.period (omega arith) alike.place) in
        record {
          settled = omega arith;
          divided = λ live. divided-along _ recurrence.period d (recurrence.least_common.common.divided i x within live) whole_periods;
        }

    none-valid : IsValid placed 0 0
    none-valid slot has = let none = has_bit-none slot in absurd (cc)

    row-is : (certificate : CertificateView) → certificate.from ≡ 0 → certificate.pending ≡ 0 → certificate.first ≡ b → certificate.masks ≡ opened ++ planned
        → row rules placed 0 0 b d well none-valid some ≡ certificate
    row-is certificate from pends first masks = grind (arith, row, none-valid, some, zero-add, listed-whole)

    -- the certificate that is made of them
    module _ (certificate : CertificateView) (from : certificate.from ≡ 0) (pends : certificate.pending ≡ 0) (first : certificate.first ≡ b)
        (masks : certificate.masks ≡ opened ++ planned) where
      same : row rules placed 0 0 b d well none-valid some ≡ certificate
      same = row-is certificate from pends first masks

      taken-is : IsTaken placed rules.window certificate
      taken-is = subst (λ (c : CertificateView). IsTaken placed rules.window c) same (row-taken rules placed 0 0 b d well none-valid some (subst (λ n. All (RepeatsFrom n d) placed) (sym (zero-add b)) repeats) again never)

      length-is : length_of certificate ≡ d
      length-is = ap length_of (sym same) ∙ row-length rules placed 0 0 b d well none-valid some

      end-is : end_of certificate ≡ b + d
      end-is = let all = length-is in omega arith

      whole-is : certificate.masks ≡ masks_of whole (end_of certificate)
      whole-is = masks ∙ listed-whole ∙ ap (masks_of whole) (sym end-is)

      certificate-is : IsCertificateOf rules placed opened (record { cycle = cycle; pending = pending }) certificate
      certificate-is = grind (arith, end-is, repeats, length-is)

      pub made-of : IsMade rules placed opened (record { cycle = cycle; pending = pending }) certificate
      made-of = record { certificate = certificate-is; whole = whole-is; taken = taken-is }

    pub within-listed : (masks : List ℕ) → masks ≡ opened ++ planned → b < 0 + length masks
    within-listed masks is = grind (arith, listed-whole, masks-length, some)

-- the certificate of a plan from a state on
module _ (rules : Rules) (placed : List Placed) (cycle pending first : ℕ) (masks : List ℕ) (well : IsWellPlaced placed)
    (valid : IsValid placed cycle pending) (made : IsRepeated rules placed (record { cycle = cycle; pending = pending }) first masks) where
  abbrev going : Planning
  going = plan_from rules placed cycle pending

  again-at : IsRecurrence going first made.length
  again-at = made.repeats.1

  pub from-after : cycle ≤ first
  from-after = let at = again-at.at in omega arith

  pub from-within : first < cycle + length masks
  from-within = grind (arith, again-at, some, masks-length)

  rounds-there : All (RepeatsFrom (cycle + again-at.number) made.length) placed
  rounds-there =
      let some = again-at.some_cycles in
      let gap : again-at.number + made.length - again-at.number ≡ made.length = omega arith in
      subst (λ n. All (RepeatsFrom (cycle + again-at.number) n) placed) gap
      (rounds-alike going again-at.period again-at.number (again-at.number + made.length) again-at.least_common.common (omega arith) again-at.alike)

  never-there : NeverMisses going
  never-there = repeat-never going first made.length rules.horizon well again-at made.repeats.2 made.repeats.0

  abbrev row-there : CertificateView
  row-there = row rules placed cycle pending again-at.number made.length well valid again-at.some_cycles

  module _ (certificate : CertificateView) (from_is : certificate.from ≡ cycle) (pending_is : certificate.pending ≡ pending) (first_is : certificate.first ≡ first)
      (masks_are : certificate.masks ≡ masks) where
    row-made : row-there ≡ certificate
    row-made = grind (arith, again-at)

    pub taken-from : IsTaken placed rules.window certificate
    taken-from =
        subst (λ (c : CertificateView). IsTaken placed rules.window c) row-made
        (row-taken rules placed cycle pending again-at.number made.length well valid again-at.some_cycles rounds-there again-at.alike.pending never-there)

    pub certificate-from : IsCertificateFrom rules placed (record { cycle = cycle; pending = pending }) certificate
    certificate-from = grind (arith, row-made, row-length, again-at, repeats)
