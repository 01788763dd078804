-- With the filling `Skip` what is planned is each pending slot that still fits.
use Rattle.std.proofs.Common.{◌≡◌, ℕ, ◌<◌, ◌≤◌, ◌&&◌, not, Bool, true, nat_le, sym, ◌∙◌, ⊎_elim}
use Rattle.std.proofs.lemmas.Bool.{and_from, and_parts, both_ways, cases_lt, le-leb, leb-true, not-true}
use Rattle.bit_sets.specs.Sets.{most_slots}
use Rattle.planner_policies.specs.declared.Fill.TheVariants.{Prefix, Skip}
use Rattle.planner_policies.specs.Order.{TakesWhatFits, width_with}
use Rattle.planner_policies.specs.Plan.{Planning, left_after, pending_in, planned_in}
use Rattle.planner_policies.proofs.Filling.{same-test, taken-each, taken-more, taken-one}

module _ (plan : Planning) (c : ℕ) (before : ℕ → Bool) (skip : plan.fill ≡ Skip) where
  planned-each : (slot : ℕ) → slot < most_slots
      → planned_in plan c before slot ≡ (pending_in plan.placed c before slot && nat_le (width_with plan c (planned_in plan c before) slot) plan.window)
  planned-each slot known = taken-each plan.policy plan.window plan.placed c (pending_in plan.placed c before) plan.fill slot skip known

  pub planned-what-fits : TakesWhatFits plan c before (planned_in plan c before)
  planned-what-fits slot known = (
    λ planned.
        let parts = and_parts (pending_in plan.placed c before slot) (nat_le (width_with plan c (planned_in plan c before) slot) plan.window)
        (sym (planned-each slot known) ∙ planned) in
        (parts.0, leb-true (width_with plan c (planned_in plan c before) slot) plan.window parts.1),
    λ both.
        planned-each slot known
        ∙ and_from (pending_in plan.placed c before slot) (nat_le (width_with plan c (planned_in plan c before) slot) plan.window) both.0
        (le-leb (width_with plan c (planned_in plan c before) slot) plan.window both.1),
  )

  pub what-fits-planned : (test : ℕ → Bool) (slot : ℕ) → TakesWhatFits plan c before test → slot < most_slots → test slot ≡ planned_in plan c before slot
  what-fits-planned test slot takes known =
      taken-one plan.policy plan.window plan.placed c (pending_in plan.placed c before) plan.fill test slot skip
      (λ s below.
      let law = takes s below in
      let width = width_with plan c test s in
      same-test (test s) (pending_in plan.placed c before s && nat_le width plan.window)
      (λ here. let both = law.0 here in and_from (pending_in plan.placed c before s) (nat_le width plan.window) both.0 (le-leb width plan.window both.1))
      (λ here.
      let parts = and_parts (pending_in plan.placed c before s) (nat_le width plan.window) here in
      law.1 (parts.0, leb-true width plan.window parts.1)))
      known

  pub front-planned : (slot : ℕ) → slot < most_slots → planned_in (record plan { fill = Prefix }) c before slot ≡ true → planned_in plan c before slot ≡ true
  front-planned slot known front =
      taken-more plan.policy plan.window plan.placed c (pending_in plan.placed c before) plan.fill slot known front

  pub left-too-wide : (slot : ℕ) → slot < most_slots → left_after plan c before slot ≡ true
      → plan.window < width_with plan c (planned_in plan c before) slot
  left-too-wide slot known left =
      let parts = and_parts (pending_in plan.placed c before slot) (not (planned_in plan c before slot)) left in
      ⊎_elim
      (λ (wide : plan.window < width_with plan c (planned_in plan c before) slot). wide)
      (λ (fits : width_with plan c (planned_in plan c before) slot ≤ plan.window).
      absurd (both_ways (planned_in plan c before slot) (not-true (planned_in plan c before slot) parts.1) ((planned-what-fits slot known).1 (parts.0, fits))))
      (cases_lt plan.window (width_with plan c (planned_in plan c before) slot))
