-- What the first repeat of a walk says of the planning.
use Rattle.std.proofs.Common.{◌≡◌, ℕ, ◌+◌, ◌-◌, ◌%◌, ◌^◌, ◌<◌, ◌≤◌, Option, Some, None, List, refl, sym, subst, arith}
use Rattle.std.proofs.lemmas.Bool.{cases_lt}
use Rattle.std.proofs.lemmas.Nat.Gcd.{dvd_of_mod-eq-zero, le_of_dvd}
use Rattle.requirement_table.specs.declared.entries.Placed.{Placed}
use Rattle.bit_sets.specs.Sets.{most_slots}
use Rattle.requirement_table.specs.Table.{IsWellPlaced}
use Rattle.planner_policies.specs.declared.state.PlanState.{PlanState}
use Rattle.planner_policies.specs.Plan.{HasNoMiss, NeverMisses, Planning, Ranking}
use Rattle.planner_policies.proofs.Shared.{never-missed}
use Rattle.recurrence_check.specs.Course.{IsLeastRepeat, IsRepeat, StaysNew, state_after}
use Rattle.admission.specs.Course.{IsSame, state_at}
use Rattle.admission.specs.Period.{IsPeriodUpTo}
use Rattle.admission.specs.Recurrence.{AreAlike, HasNoRecurrence, IsCommonPeriod, IsLeastCommonPeriod, IsRecurrence, bound_of}
use Rattle.admission.proofs.Cycles.{IsLike}
use Rattle.admission.proofs.Divided.{divided-along, divided-gap}
use Rattle.admission.proofs.Reduced.{settled-by}
use Rattle.admission.proofs.States.{came-to, comes-to, course, plan, state-is}

-- a repeat without a miss means no miss at all
pub alike-never : (plan : Planning) (period one other : ℕ) → IsWellPlaced plan.placed → IsCommonPeriod plan.placed period → one < other
    → AreAlike plan period one other → HasNoMiss plan other → NeverMisses plan
alike-never plan period one other well common order alike none =
    let settled = alike.one_settled in
    let gap : plan.from + other - (plan.from + one) ≡ other - one = omega arith in
    let divided : (other - one) % period ≡ 0 =
    subst (λ n. n % period ≡ 0) gap (divided-gap (plan.from + one) (plan.from + other) period (omega arith) alike.place) in
    never-missed plan one other well order
    (λ i d within.
    let by = settled-by plan.from plan.placed i d within in
    record {
      settled = omega arith;
      divided = λ live. divided-along _ period (other - one) (common.divided i d within live) divided;
    })
    alike.pending none

pub least-same : (placed : List Placed) (one other : ℕ) → IsLeastCommonPeriod placed one → IsLeastCommonPeriod placed other → one ≡ other
least-same placed one other first second =
    let below = first.least other second.common in
    let above = second.least one first.common in
    omega arith

module _ (ranking : Ranking) (placed : List Placed) (window from pending bound horizon : ℕ) (period : Option ℕ)
    (known : pending < 2 ^ most_slots) (like : (n : ℕ) → IsLike ranking.policy ranking.placed placed (from + n) (from + n))
    (bound_is : bound ≡ bound_of from placed) (period_is : IsPeriodUpTo horizon placed period) where
  abbrev the_plan : Planning
  the_plan = plan ranking placed window from pending bound period known like

  abbrev TheRepeat : ℕ → ℕ → Type 0
  TheRepeat one other = IsRepeat (course ranking placed window from pending bound period known like) one other

  repeat-same : (one other : ℕ) → TheRepeat one other → IsSame bound period (state_at the_plan one) (state_at the_plan other)
  repeat-same one other repeat =
      let before = state-is ranking placed window from pending bound period known like one repeat.before repeat.before_is in
      let again = state-is ranking placed window from pending bound period known like other repeat.again repeat.again_is in
      subst (λ s. IsSame bound period s (state_at the_plan other)) before
      (subst (λ s. IsSame bound period repeat.before s) again repeat.same)

  same-alike : (length' one other : ℕ) → AreAlike the_plan length' one other
      → IsSame bound (Some length') (state_at the_plan one) (state_at the_plan other)
  same-alike length' one other alike = grind arith

  some-period : (limit : ℕ) (one other : ℕ) (o : Option ℕ) → IsPeriodUpTo limit placed o → IsSame bound o (state_at the_plan one) (state_at the_plan other)
      → (length' : ℕ) × (o ≡ Some length') × IsLeastCommonPeriod placed length' × AreAlike the_plan length' one other
  some-period limit one other o upto same = grind arith

  alike-repeat : (length' one other : ℕ) → period ≡ Some length' → one < other → HasNoMiss the_plan other → AreAlike the_plan length' one other
      → TheRepeat one other
  alike-repeat length' one other is order none alike = record {
    order = order;
    before = state_at the_plan one;
    again = state_at the_plan other;
    before_is = comes-to ranking placed window from pending bound period known like one (λ m slot below. none m slot (omega arith));
    again_is = comes-to ranking placed window from pending bound period known like other none;
    same = subst (λ o. IsSame bound o (state_at the_plan one) (state_at the_plan other)) (sym is) (same-alike length' one other alike);
  }

  no_miss-at : (n : ℕ) (state : PlanState)
      → state_after (course ranking placed window from pending bound period known like) n ≡ Some state → HasNoMiss the_plan n
  no_miss-at n state there = came-to ranking placed window from pending bound period known like n state there

  -- an accepted planning
  pub never-after : IsWellPlaced placed → (one other : ℕ) → TheRepeat one other → NeverMisses the_plan
  never-after well one other repeat =
      let some = some-period horizon one other period period_is (repeat-same one other repeat) in
      alike-never the_plan some.0 one other well some.2.common repeat.order some.3 (no_miss-at other repeat.again repeat.again_is)

  pub is-recurrence : NeverMisses the_plan → (first length' : ℕ)
      → IsLeastRepeat (course ranking placed window from pending bound period known like) first (first + length')
      → IsRecurrence the_plan (from + first) length'
  is-recurrence never first length' least =
      let some = some-period horizon first (first + length') period period_is (repeat-same first (first + length') least.repeats) in
      let order = least.repeats.order in
      record {
        period = some.0;
        least_common = some.2;
        number = first;
        at = refl;
        some_cycles = omega arith;
        alike = some.3;
        least = λ one other before alike.
            least.soonest one other (alike-repeat some.0 one other some.1 before (λ m slot below. never m slot) alike);
      }

  -- a planning with no repeat up to the horizon
  pub none-within : StaysNew (course ranking placed window from pending bound period known like) horizon → HasNoMiss the_plan horizon
  none-within stays = no_miss-at horizon stays.last stays.last_is

  no-repeat : (o : Option ℕ) → period ≡ o → IsPeriodUpTo horizon placed o
      → StaysNew (course ranking placed window from pending bound period known like) horizon
      → (length' one other : ℕ) → IsLeastCommonPeriod placed length' → one < other → AreAlike the_plan length' one other → other ≤ horizon → ⊥
  no-repeat None is upto stays length' one other least order alike within =
      let above = upto length' least.common in
      let gap : from + other - (from + one) ≡ other - one = omega arith in
      let divided : (other - one) % length' ≡ 0 =
      subst (λ n. n % length' ≡ 0) gap (divided-gap (from + one) (from + other) length' (omega arith) alike.place) in
      let some : 0 < other - one = omega arith in
      let below : length' ≤ other - one = le_of_dvd some (dvd_of_mod-eq-zero length' divided) in
      omega arith
  no-repeat (Some found) is upto stays length' one other least order alike within =
      let same : length' ≡ found = least-same placed length' found least upto.0 in
      let none : HasNoMiss the_plan other = λ m slot below. none-within stays m slot (omega arith) in
      let here : AreAlike the_plan found one other = subst (λ n. AreAlike the_plan n one other) same alike in
      stays.new one other within (alike-repeat found one other is order none here)

  pub no-recurrence : StaysNew (course ranking placed window from pending bound period known like) horizon → HasNoRecurrence the_plan horizon
  no-recurrence h0 = grind (arith, no-repeat, cases_lt)
