-- A certificate that lists a plan from its first cycle on up to the end of a repeat: its endless row of masks is the
-- plan, and keeps the table.
use Rattle.std.proofs.Common.{◌≡◌, ℕ, zero, suc, ◌+◌, ◌-◌, ◌*◌, ◌/◌, ◌%◌, ◌<◌, ◌≤◌, Bool, true, false, not, ◌&&◌, ◌||◌, nat_lt, List, All, refl, sym, ap, ◌∙◌, subst, ⊎_elim, arith}
use Rattle.std.proofs.lemmas.Bool.{cases_lt, cond-false, cond-true, lt-ltb}
use Rattle.std.proofs.lemmas.Bool.Decides.{nat_tests}
use Rattle.std.proofs.lemmas.List.Folds.{list_any_none}
use Rattle.requirement_table.specs.declared.entries.Placed.{Placed}
use Rattle.requirement_table.specs.Flags.{IsGoodCycle, waits}
use Rattle.bit_sets.specs.Sets.{has_bit, most_slots}
use Rattle.requirement_table.specs.Table.{IsWellPlaced, held_before, is_last_in, releases_in, width_in, worst_in}
use Rattle.bit_sets.proofs.Shared.{sum_where-same}
use Rattle.planner_policies.specs.Loop.{RepeatsFrom}
use Rattle.planner_policies.specs.Plan.{IsValid, NeverMisses, Planning, flags_of as flags_planned, pending_at, pending_before, planned_at}
use Rattle.planner_policies.proofs.Shared.{good-cycle, held-is, loop-planned, pending-test, planned-fits}
use Rattle.plan_check.specs.declared.breach.Breach.{Breach}
use Rattle.plan_check.specs.declared.breach.Breach.TheVariants.{BadLoop, NotReleased, TooWide, Missed, NotClosed}
use Rattle.plan_check.specs.Breaches.{IsBreach, IsGoodAt, IsLeastSlot, is_flagged, is_missed, is_unreleased, is_waiting, width_at}
use Rattle.plan_check.specs.Certificate.{CertificateView, flags_of, length_of, place_of}
use Rattle.plan_check.specs.PlanKept.{IsTaken, NoSlot, differ, is_bad, is_held, is_open}
use Rattle.plan_check.proofs.Shared.{unbroken-taken}
use Rattle.admission_rules.specs.declared.Rules.{Rules}
use Rattle.admission.specs.Verdict.{masks_of, plan_from}
use Rattle.admission.proofs.Cycles.{agree-set}
use Rattle.admission.proofs.Listed.{masks-at, masks-length}

-- what is held by flags that agree for the slot
held-same : (placed : List Placed) (flags others : ℕ → ℕ → Bool) (from : ℕ) (held : ℕ → Bool) (n slot : ℕ)
    → ((m : ℕ) → flags (from + m) slot ≡ others (from + m) slot) → held_before placed flags from held n slot ≡ held_before placed others from held n slot
unfolding held_before
held-same placed flags others from held zero slot same = refl
held-same placed flags others from held (suc n) slot same =
    ap (λ b. (b || releases_in placed (from + n) slot) && not (flags (from + n) slot)) (held-same placed flags others from held n slot same)
    ∙ ap (λ b. (held_before placed others from held n slot || releases_in placed (from + n) slot) && not b) (same n)

not-differ : (one other : Bool) → one ≡ other → differ one other ≡ false
not-differ one other same = grind arith

none-but : (a b : Bool) → (a ≡ true → b ≡ true) → (a && not b) ≡ false
none-but a b holds = grind arith

none-late : (a b c : Bool) → (a ≡ true → b ≡ true → c ≡ true) → (a && b && not c) ≡ false
none-late a b c holds = grind arith

module _ (rules : Rules) (placed : List Placed) (from pending b d : ℕ) (well : IsWellPlaced placed) (valid : IsValid placed from pending)
    (some : 0 < d) where
  abbrev plan : Planning
  plan = plan_from rules placed from pending

  abbrev pub row : CertificateView
  row = record { from = from; pending = pending; first = from + b; masks = masks_of (plan_from rules placed from pending) (b + d) }

  pub row-length : length_of row ≡ d
  row-length = let all = masks-length plan (b + d) in omega arith

  module _ (repeats : All (RepeatsFrom (from + b) d) placed)
      (again : pending_at (plan_from rules placed from pending) b ≡ pending_at (plan_from rules placed from pending) (b + d))
      (never : NeverMisses (plan_from rules placed from pending)) where
    -- The row is the plan

    plan-again : (k slot : ℕ) → slot < most_slots → planned_at plan (b + d + k) slot ≡ planned_at plan (b + k) slot
    plan-again k slot known =
        let gap : d ≡ b + d - b = omega arith in
        loop-planned plan b (b + d) well (omega arith) (subst (λ n. All (RepeatsFrom (from + b) n) placed) gap repeats) again k slot known

    plan-round : (q k slot : ℕ) → slot < most_slots → planned_at plan (b + (q * d + k)) slot ≡ planned_at plan (b + k) slot
    plan-round zero k slot known = let at : b + (0 * d + k) ≡ b + k = grind arith in ap (λ n. planned_at plan n slot) at
    plan-round (suc q) k slot known =
        let at : b + (suc q * d + k) ≡ b + d + (q * d + k) = grind arith in
        ap (λ n. planned_at plan n slot) at ∙ plan-again (q * d + k) slot known ∙ plan-round q k slot known

    place-before : (n : ℕ) → n < b → place_of row (from + n) ≡ n
    place-before n before = grind (arith, cond-true, nat_lt, lt-ltb)

    place-after : (n : ℕ) → b ≤ n → place_of row (from + n) ≡ b + (n - b) % d
    place-after n after = grind (arith, nat_lt, nat_tests, cond-false, row-length)

    listed : (n place slot : ℕ) → place_of row (from + n) ≡ place → place < b + d → slot < most_slots
        → flags_of row (from + n) slot ≡ planned_at plan place slot
    unfolding flags_of
    listed n place slot is within known = grind (arith, masks-at, agree-set)

    pub row-flags : (n slot : ℕ) → slot < most_slots → flags_of row (from + n) slot ≡ planned_at plan n slot
    row-flags n slot known =
        ⊎_elim
        (λ (before : n < b). listed n n slot (place-before n before) (omega arith) known)
        (λ (after : b ≤ n).
        let at : b + ((n - b) / d * d + (n - b) % d) ≡ n = omega arith in
        listed n (b + (n - b) % d) slot (place-after n after) (omega arith) known
        ∙ sym (plan-round ((n - b) / d) ((n - b) % d) slot known)
        ∙ ap (λ k. planned_at plan k slot) at)
        (cases_lt n b)

    row-planned : (n slot : ℕ) → slot < most_slots → flags_of row (from + n) slot ≡ flags_planned plan (from + n) slot
    row-planned n slot known = let at : n ≡ from + n - from = omega arith in row-flags n slot known ∙ ap (λ k. planned_at plan k slot) at

    row-before : (n slot : ℕ) → slot < most_slots
        → is_held placed row n slot ≡ held_before placed (flags_planned plan) from (has_bit pending) n slot
    row-before n slot known = held-same placed (flags_of row) (flags_planned plan) from (has_bit pending) n slot (λ m. row-planned m slot known)

    row-held : (n slot : ℕ) → slot < most_slots → is_held placed row n slot ≡ pending_before plan n slot
    row-held n slot known = row-before n slot known ∙ held-is plan n slot

    -- The loop

    rounds : NoSlot (is_bad placed row)
    rounds = grind (arith, list_any_none, row-length)

    closed : NoSlot (is_open placed row)
    closed slot known =
        let before : from + b - from ≡ b = omega arith in
        let behind : from + b - from + length_of row ≡ b + d = let all = row-length in omega arith in
        not-differ (is_held placed row (from + b - from) slot) (is_held placed row (from + b - from + length_of row) slot)
        (ap (λ n. is_held placed row n slot) before
        ∙ row-held b slot known
        ∙ sym (pending-test plan b slot known)
        ∙ ap (λ mask. has_bit mask slot) again
        ∙ pending-test plan (b + d) slot known
        ∙ sym (row-held (b + d) slot known)
        ∙ ap (λ n. is_held placed row n slot) (sym behind))

    -- The cycles

    good-planned : (n : ℕ) → IsGoodCycle placed (flags_planned plan) from (has_bit pending) n
    good-planned n = good-cycle plan (suc n) n (λ m slot _ known. never m slot known) (omega arith)

    waits-same : (n slot : ℕ) → slot < most_slots
        → is_waiting placed row n slot ≡ waits placed (flags_planned plan) from (has_bit pending) n slot
    waits-same n slot known = ap (λ held. held || releases_in placed (from + n) slot) (row-before n slot known)

    fits : (n : ℕ) → width_at placed row n ≤ rules.window
    fits n =
        let same : width_at placed row n ≡ width_in placed (from + n) (planned_at plan n) =
        sum_where-same most_slots (is_flagged row n) (planned_at plan n) (worst_in placed (from + n)) (λ slot known. row-flags n slot known) in
        let planned = planned-fits plan (from + n) (pending_before plan n) in
        omega arith

    good : (n : ℕ) → IsGoodAt placed rules.window row n
    good n = record {
      released = λ slot known.
          none-but (is_flagged row n slot) (is_waiting placed row n slot)
          (λ flagged. waits-same n slot known ∙ (good-planned n).holding slot known (sym (row-planned n slot known) ∙ flagged));
      fits = fits n;
      in_time = λ slot known.
          none-late (is_waiting placed row n slot) (is_last_in placed (from + n) slot) (is_flagged row n slot)
          (λ waiting last. row-planned n slot known ∙ (good-planned n).in_time slot known (sym (waits-same n slot known) ∙ waiting) last);
    }

    -- So the checker finds nothing, and the table is kept

    passed : (test : ℕ → Bool) (slot : ℕ) → NoSlot test → IsLeastSlot test slot → ⊥
    passed test slot none found = let both : true ≡ false = sym found.passes ∙ none slot found.known in cc

    unbroken : (breach : Breach) → ¬ IsBreach placed rules.window row breach
    unbroken (BadLoop slot) is = passed (is_bad placed row) slot rounds is
    unbroken (NotReleased cycle slot) is = passed (is_unreleased placed row is.number) slot (good is.number).released is.slot_is
    unbroken (TooWide cycle sum) is = let wide = is.wide in let all = is.sum_is in let within = fits is.number in omega arith
    unbroken (Missed slot release cycle) is = passed (is_missed placed row is.number) slot (good is.number).in_time is.slot_is
    unbroken (NotClosed slot) is = passed (is_open placed row) slot closed is.slot_is

    pub row-taken : IsTaken placed rules.window row
    row-taken =
        let all = masks-length plan (b + d) in
        unbroken-taken placed rules.window row unbroken well valid (record { after = omega arith; within = omega arith })
