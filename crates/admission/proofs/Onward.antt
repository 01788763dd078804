-- What is safe within the horizon stays so from cycle to cycle.
use Rattle.std.proofs.Common.{◌≡◌, ℕ, ◌+◌, ◌-◌, ◌%◌, ◌<◌, ◌≤◌, List, [], ◌∷◌, All, max, sym, ap, ◌∙◌, subst, arith}
use Rattle.std.proofs.Math.Nat.{mod-add-mod}
use Rattle.profile.specs.Limits.{openings_end}
use Rattle.requirement_table.specs.declared.entries.Placed.{Placed}
use Rattle.bit_sets.specs.Sets.{most_slots}
use Rattle.requirement_table.specs.Table.{IsWellPlaced}
use Rattle.bit_sets.proofs.Shared.{set_of-same}
use Rattle.planner_policies.specs.Loop.{RepeatsFrom, settled_at}
use Rattle.planner_policies.specs.Plan.{Planning, pending_at, pending_before}
use Rattle.planner_policies.proofs.Shared.{loop-pending, on-missed, on-pending, valid-along}
use Rattle.admission_rules.specs.declared.Rules.{Rules}
use Rattle.admission.specs.declared.verdict.Verdict.TheVariants.{Accepted}
use Rattle.admission.specs.Recurrence.{AreAlike, IsCommonPeriod, bound_of}
use Rattle.admission.specs.Safe.{HasRepeat, IsSafeWithin}
use Rattle.admission.specs.Verdict.{IsSafe, IsVerdictOnPlan, plan_from}
use Rattle.admission.proofs.Divided.{divided-along, divided-gap}
use Rattle.admission.proofs.Listed.{later_plan}
use Rattle.admission.proofs.Reduced.{bound-above, settled-by}

-- an acceptance shows a repeat
pub repeat-found : (horizon : ℕ) (plan : Planning) (first length : ℕ) → IsVerdictOnPlan horizon plan (Accepted first length) → HasRepeat plan horizon
repeat-found horizon plan first length is = grind arith

-- the entries that have settled by a cycle have settled by a later one
bound-later : (z y b c : ℕ) (placed : List Placed) → bound_of z placed ≤ b → y ≤ c → b ≤ c → bound_of y placed ≤ c
bound-later z y b c [] is low up = low
bound-later z y b c (p ∷ placed) is low up =
    let above = bound-above (max z (settled_at p)) placed in
    bound-later (max z (settled_at p)) (max y (settled_at p)) b c placed is (omega arith) up

same-more : (one other more length : ℕ) → one % length ≡ other % length → (one + more) % length ≡ (other + more) % length
same-more one other more length same = sym (mod-add-mod one length more) ∙ ap (λ n. (n + more) % length) same ∙ mod-add-mod other length more

pub rounds-alike : (plan : Planning) (period one other : ℕ) → IsCommonPeriod plan.placed period → one < other → AreAlike plan period one other
    → All (RepeatsFrom (plan.from + one) (other - one)) plan.placed
rounds-alike plan period one other common before alike i x within =
    let settled = alike.one_settled in
    let by = settled-by plan.from plan.placed i x within in
    let gap : plan.from + other - (plan.from + one) ≡ other - one = omega arith in
    let whole : (other - one) % period ≡ 0 =
    subst (λ n. n % period ≡ 0) gap (divided-gap (plan.from + one) (plan.from + other) period (omega arith) alike.place) in
    record { settled = omega arith; divided = λ live. divided-along _ period (other - one) (common.divided i x within live) whole }

later-pending : (plan : Planning) (n m : ℕ) → pending_at (later_plan plan n) m ≡ pending_at plan (n + m)
later-pending plan n m = grind (arith, set_of-same, later_plan, on-pending)

pub repeat-later : (plan : Planning) (n horizon : ℕ) → IsWellPlaced plan.placed → HasRepeat plan horizon → HasRepeat (later_plan plan n) horizon
repeat-later plan n horizon well is =
    let one = is.one in
    let other = is.other in
    let alike = is.alike in
    let at_one : plan.from + n + one ≡ plan.from + one + n = omega arith in
    let at_other : plan.from + n + other ≡ plan.from + other + n = omega arith in
    let left : n + one ≡ one + n = omega arith in
    let right : other + n ≡ n + other = omega arith in
    record {
      period = is.period;
      least_common = is.least_common;
      one = one;
      other = other;
      before = is.before;
      within = is.within;
      alike = record {
        one_settled = bound-later plan.from (plan.from + n) (plan.from + one) (plan.from + n + one) plan.placed alike.one_settled (omega arith) (omega arith);
        other_settled = bound-later plan.from (plan.from + n) (plan.from + other) (plan.from + n + other) plan.placed alike.other_settled (omega arith) (omega arith);
        place =
            ap (λ k. k % is.period) at_one ∙ same-more (plan.from + one) (plan.from + other) n is.period alike.place ∙ sym (ap (λ k. k % is.period) at_other);
        pending =
            later-pending plan n one
            ∙ set_of-same most_slots (pending_before plan (n + one)) (pending_before plan (n + other))
            (λ slot known.
            ap (λ k. pending_before plan k slot) left
            ∙ sym
            (loop-pending plan one other well is.before (rounds-alike plan is.period one other is.least_common.common is.before alike) alike.pending n slot known)
            ∙ ap (λ k. pending_before plan k slot) right)
            ∙ sym (later-pending plan n other);
      };
    }

module _ (rules : Rules) (placed : List Placed) (from pending n : ℕ) where
  abbrev plan : Planning
  plan = plan_from rules placed from pending

  pub safe-later : IsSafe rules placed from pending → IsSafe rules placed (from + n) (pending_at (plan_from rules placed from pending) n)
  safe-later is = record {
    well_placed = is.well_placed;
    held = valid-along plan n is.well_placed is.held (λ m slot below. is.in_time m slot);
    in_time = λ m slot known. sym (on-missed plan n m slot known) ∙ is.in_time (n + m) slot known;
  }

  pub within-later : from + n ≤ openings_end → IsSafeWithin rules placed from pending
      → IsSafeWithin rules placed (from + n) (pending_at (plan_from rules placed from pending) n)
  within-later near is = record {
    in_range = is.in_range;
    near = near;
    safe = safe-later is.safe;
    repeats = repeat-later plan n rules.horizon is.safe.well_placed is.repeats;
  }
