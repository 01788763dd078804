-- From a state of a table that misses no deadline, the state behind its cycle misses none either. An empty table misses
-- none.
use Rattle.std.proofs.Common.{◌≡◌, ℕ, ◌+◌, ◌<◌, false, List, [], refl, sym, ap, ◌∙◌, subst, true≢false, arith}
use Rattle.std.proofs.Math.Bool.{and-false}
use Rattle.bit_sets.proofs.Shared.{has_bit-none}
use Rattle.bit_sets.specs.Sets.{has_bit, most_slots, set_of}
use Rattle.planner_policies.specs.Plan.{IsMissIn, NeverMisses, Planning, is_missed_in, left_after, pending_at, pending_before}
use Rattle.planner_policies.proofs.Shared.{on-missed}
use Rattle.admission.specs.Verdict.{IsSafe, plan_from}
use Rattle.c_values.specs.declared.plain.FttPlaced.{FttPlaced}
use Rattle.c_values.specs.declared.plain.FttPlan.{FttPlan}
use Rattle.c_values.specs.declared.plain.FttRules.{FttRules}
use Rattle.c_values.specs.declared.plain.FttState.{FttState}
use Rattle.c_values.specs.declared.refusal.ExportRefusal.{ExportRefusal}
use Rattle.c_values.specs.declared.refusal.ExportRefusal.TheVariants.{Memory, Argument, Table, State, Room, Miss, Closed, Open, Text, No}
use Rattle.fttcan_c.specs.Admit.{IsStateOpened, RefusesOpening, plan_at}
use Rattle.c_values.specs.Plain.{mask_of, rules_of, table_of}
use Rattle.c_values.specs.Refused.{status_of}

-- what is pending behind the first cycle of a planning
pending-behind : (plan : Planning) → pending_at plan 1 ≡ set_of most_slots (left_after plan (plan.from + 0) (has_bit plan.pending))
unfolding pending_before
pending-behind plan = refl

-- what is missed in it
missed-first : (plan : Planning) → NeverMisses plan → (slot : ℕ) → slot < most_slots → is_missed_in plan (plan.from + 0) (has_bit plan.pending) slot ≡ false
unfolding pending_before
missed-first plan never slot known = never 0 slot known

pub kept_safe : (rules : FttRules) (placed : List FttPlaced) (old new : FttState) (plan : FttPlan) → IsStateOpened rules placed old new plan
    → IsSafe (rules_of rules) (table_of placed) old.cycle (mask_of old.pending)
    → IsSafe (rules_of rules) (table_of placed) new.cycle (mask_of new.pending)
kept_safe rules placed old new plan opened safe =
    let from : Planning = plan_at rules placed old in
    let zero_is : old.cycle + 0 ≡ old.cycle = omega arith in
    let behind : mask_of new.pending ≡ pending_at from 1 =
    opened.pending
    ∙ sym (ap (λ (c : ℕ). set_of most_slots (left_after from c (has_bit (mask_of old.pending)))) zero_is)
    ∙ sym (pending-behind from) in
    let later : NeverMisses (plan_from (rules_of rules) (table_of placed) (old.cycle + 1) (pending_at from 1)) =
    λ m slot known. sym (on-missed from 1 m slot known) ∙ safe.in_time (1 + m) slot known in
    record {
      well_placed = safe.well_placed;
      held = opened.held;
      in_time = subst (λ (c : ℕ). NeverMisses (plan_from (rules_of rules) (table_of placed) c (mask_of new.pending))) (sym opened.cycle)
          (subst (λ (p : ℕ). NeverMisses (plan_from (rules_of rules) (table_of placed) (old.cycle + 1) p)) (sym behind) later);
    }

pub no_miss : (rules : FttRules) (placed : List FttPlaced) (state : FttState) (slot release : ℕ)
    → IsSafe (rules_of rules) (table_of placed) state.cycle (mask_of state.pending)
    → IsMissIn (plan_at rules placed state) state.cycle (has_bit (mask_of state.pending)) slot release → ⊥
no_miss rules placed state slot release safe miss =
    let from : Planning = plan_at rules placed state in
    let zero_is : state.cycle + 0 ≡ state.cycle = omega arith in
    let none : is_missed_in from state.cycle (has_bit from.pending) slot ≡ false =
    sym (ap (λ (c : ℕ). is_missed_in from c (has_bit from.pending) slot) zero_is)
    ∙ missed-first from safe.in_time slot miss.known in
    absurd (true≢false (sym miss.missed ∙ none))

-- so a refusal of its opening has not the status of a miss
pub not_missed : (rules : FttRules) (placed : List FttPlaced) (state : FttState) (refusal : ExportRefusal) (status : ℕ) → status ≡ status_of refusal
    → RefusesOpening rules placed state refusal → IsSafe (rules_of rules) (table_of placed) state.cycle (mask_of state.pending) → status ≡ 6 → ⊥
not_missed rules placed state Memory status is why safe six = omega arith
not_missed rules placed state Argument status is why safe six = omega arith
not_missed rules placed state Table status is why safe six = omega arith
not_missed rules placed state State status is why safe six = omega arith
not_missed rules placed state Room status is why safe six = omega arith
not_missed rules placed state Miss status is why safe six = no_miss rules placed state why.3.0 why.3.1 safe why.3.2
not_missed rules placed state Closed status is why safe six = omega arith
not_missed rules placed state Open status is why safe six = omega arith
not_missed rules placed state Text status is why safe six = omega arith
not_missed rules placed state No status is why safe six = omega arith

pub from_nothing : (rules : FttRules) → IsSafe (rules_of rules) [] 0 0
from_nothing rules = record {
  well_placed = record { in_range = λ i d within. absurd (omega arith); in_order = λ i j d order within. absurd (omega arith) };
  held = λ slot pending. absurd (true≢false (sym pending ∙ has_bit-none slot));
  in_time = λ m slot known. and-false (left_after (plan_from (rules_of rules) [] 0 0) (0 + m) (pending_before (plan_from (rules_of rules) [] 0 0) m) slot);
}
