-- The plan of a cycle, from what is planned of its pending instances and what is left of them.
use Rattle.std.proofs.Common.{◌≡◌, ◌≢◌, ℕ, ◌<◌, ◌≤◌, Bool, true, Some, None, List, All, AllPairs, Contains, refl, sym, ◌∙◌, arith}
use Rattle.std.specs.List.{sum_by}
use Rattle.std.proofs.lemmas.Bool.{and_from, and_parts, eq-eqb, eqb-true, false_from_ne_true}
use Rattle.std.proofs.lemmas.List.Elements.{All-map, All-weaker}
use Rattle.std.proofs.lemmas.List.Folds.{list_any-from_Any}
use Rattle.bit_sets.specs.Sets.{set_of, most_slots}
use Rattle.requirement_table.specs.Table.{is_last_in, width_in, worst_in}
use Rattle.bit_sets.proofs.Shared.{set_of-from_slots, sum_where-same}
use Rattle.planner_policies.specs.declared.due.Due.{Due}
use Rattle.planner_policies.specs.declared.state.Miss.{Miss}
use Rattle.planner_policies.specs.Due.{IsDueIn, IsLeastMissed, IsLineTaken, IsPlanned, IsSetOf, IsWholeLine, left_of, taken_of}
use Rattle.planner_policies.specs.declared.Fill.{Fill}
use Rattle.planner_policies.specs.declared.Fill.TheVariants.{Prefix, Skip}
use Rattle.planner_policies.specs.Plan.{HasNoMissIn, IsMissIn, Planning, is_missed_in, left_after, planned_in}
use Rattle.planner_policies.proofs.DueSlots.{IsSplit, has-order, has_slot, instance-with, last-is, order_of, slot_of, slots-contain, sum-costs}
use Rattle.planner_policies.proofs.TakenEach.{split-each}
use Rattle.planner_policies.proofs.TakenFront.{split-front}
use Rattle.planner_policies.proofs.Longest.{has, sum_where-list}
use Rattle.planner_policies.proofs.Pairs.{pairs-map}

pub split-of : (plan : Planning) (c : ℕ) (before : ℕ → Bool) (line : List Due) (fill : Fill) → plan.fill ≡ fill → IsWholeLine plan c before line
    → IsSplit plan c before (taken_of fill plan.window line) (left_of fill plan.window line)
split-of plan c before line Prefix is whole = split-front plan c before line is whole
split-of plan c before line Skip is whole = split-each plan c before line is whole

module _ (plan : Planning) (c : ℕ) (before : ℕ → Bool) (taken left : List Due) (split : IsSplit plan c before taken left) where
  -- the set of the slots that are planned, and that of the slots that are left
  pub planned-set : (mask : ℕ) → IsSetOf mask taken → mask ≡ set_of most_slots (planned_in plan c before)
  planned-set mask made = set_of-from_slots most_slots mask (planned_in plan c before) made.below (λ slot known. made.slots slot ∙ split.planned slot known)

  pub left-set : (mask : ℕ) → IsSetOf mask left → mask ≡ set_of most_slots (left_after plan c before)
  left-set mask made = set_of-from_slots most_slots mask (left_after plan c before) made.below (λ slot known. made.slots slot ∙ split.not_planned slot known)

  -- an instance that is left in its last cycle
  missed-with : (slot : ℕ) → slot < most_slots → is_missed_in plan c before slot ≡ true
      → (due : Due) × Contains left due × (due.slot ≡ slot) × (due.last ≡ c)
  missed-with slot known missed =
      let parts = and_parts (left_after plan c before slot) (is_last_in plan.placed c slot) missed in
      let found = split.not_planned slot known ∙ parts.0 in
      let one = instance-with slot left (slots-contain slot left found) in
      grind (arith, last-is, eqb-true)

  pub none-missed : IsLeastMissed c left None → HasNoMissIn plan c before
  none-missed h0 = grind (arith, false_from_ne_true, missed-with)

  pub miss-is : (miss : Miss) → IsLeastMissed c left (Some miss) → IsMissIn plan c before miss.slot miss.release
  miss-is miss least = grind (arith, list_any-from_Any, has_slot, eq-eqb, last-is, and_from, false_from_ne_true, missed-with)

  -- what they cost together is what the planned slots cost
  pub planned-width : width_in plan.placed c (planned_in plan c before) ≡ sum_by (λ due. due.cost) taken
  planned-width =
      let known : All (λ x. x < most_slots) (order_of taken)
      = All-map (λ x. x < most_slots) slot_of taken (All-weaker (IsDueIn plan c before) (λ due. due.slot < most_slots) (λ due is. is.known) taken split.each_taken) in
      let distinct : AllPairs (λ v w. v ≢ w) (order_of taken) = pairs-map (λ v w. v ≢ w) slot_of taken split.distinct in
      sum_where-same most_slots (planned_in plan c before) (has (order_of taken)) (worst_in plan.placed c)
      (λ slot within. sym (split.planned slot within) ∙ has-order slot taken)
      ∙ sum_where-list most_slots (order_of taken) (worst_in plan.placed c) known distinct
      ∙ sum-costs plan c before taken split.each_taken

  -- all of this at once
  pub split-planned : (mask width next : ℕ) → IsSetOf mask taken → width ≡ sum_by (λ due. due.cost) taken → width ≤ plan.window → IsSetOf next left
      → IsLeastMissed c left None → IsPlanned plan c before mask width next
  split-planned mask width next made cost fits rest none = record {
    planned = planned-set mask made;
    width_is = cost ∙ sym planned-width;
    fits = fits;
    left = left-set next rest;
    none_missed = none-missed none;
  }

pub line-planned : (plan : Planning) (c : ℕ) (before : ℕ → Bool) (line : List Due) (mask width next : ℕ) → IsWholeLine plan c before line
    → IsLineTaken plan.fill plan.window line c mask width next → IsPlanned plan c before mask width next
line-planned plan c before line mask width next whole is =
    split-planned plan c before (taken_of plan.fill plan.window line) (left_of plan.fill plan.window line) (split-of plan c before line plan.fill refl whole)
    mask width next is.planned is.cost is.fits is.left is.none_missed
