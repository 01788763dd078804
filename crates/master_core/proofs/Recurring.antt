-- A planning with a recurrence, and no miss up to it, never misses a deadline.
use Rattle.std.proofs.Common.{◌≡◌, ℕ, ◌+◌, ◌-◌, ◌*◌, ◌/◌, ◌%◌, ◌≤◌, List, [], ◌∷◌, All, fold, map, max, subst, arith}
use Rattle.std.proofs.Math.Nat.{dvd-mul_left, dvd-sub}
use Rattle.std.proofs.lemmas.List.Elements.{All-cons, All-nil}
use Rattle.std.proofs.lemmas.Nat.Gcd.{dvd_of_mod-eq-zero, dvd_trans, mod-eq-zero_of_dvd}
use Rattle.requirement_table.specs.declared.entries.Placed.{Placed}
use Rattle.requirement_table.specs.Table.{IsWellPlaced}
use Rattle.planner_policies.specs.Loop.{RepeatsFrom, settled_at}
use Rattle.planner_policies.specs.Plan.{HasNoMiss, NeverMisses, Planning}
use Rattle.planner_policies.proofs.Shared.{never-missed}
use Rattle.admission.specs.Recurrence.{AreAlike, IsCommonPeriod, IsRecurrence}

-- what a divisor divides its divisors divide
divided-along : (small great n : ℕ) → great % small ≡ 0 → n % great ≡ 0 → n % small ≡ 0
divided-along small great n first second = grind (arith, mod-eq-zero_of_dvd, dvd_trans, dvd_of_mod-eq-zero)

-- numbers with the same rest differ by a multiple
pub divided-gap : (one other length : ℕ) → one ≤ other → one % length ≡ other % length → (other - one) % length ≡ 0
divided-gap one other length order same =
    let gap : other / length * length - one / length * length ≡ other - one = omega arith in
    let divided : (other / length * length - one / length * length) % length ≡ 0 =
    mod-eq-zero_of_dvd length (dvd-sub length (dvd-mul_left length (other / length)) (dvd-mul_left length (one / length))) in
    subst (λ n. n % length ≡ 0) gap divided

settled-within : (placed : List Placed) (from bound : ℕ) → fold max from (map settled_at placed) ≤ bound → All (λ p. settled_at p ≤ bound) placed
settled-within [] from bound within = All-nil (λ p. settled_at p ≤ bound)
settled-within (p ∷ placed) from bound within =
    All-cons (λ p. settled_at p ≤ bound) p placed
    (let above = begun placed (max from (settled_at p)) bound within in omega arith)
    (settled-within placed (max from (settled_at p)) bound within)
  where
    begun : (placed : List Placed) (from bound : ℕ) → fold max from (map settled_at placed) ≤ bound → from ≤ bound
    begun [] from bound within = within
    begun (p ∷ placed) from bound within = let above = begun placed (max from (settled_at p)) bound within in omega arith

-- between two cycles with the same plan state every entry repeats
pub alike-repeats : (plan : Planning) (period n m : ℕ) → n ≤ m → IsCommonPeriod plan.placed period → AreAlike plan period n m
    → All (RepeatsFrom (plan.from + n) (m - n)) plan.placed
alike-repeats plan period n m order common alike i d inside =
    let gap : (plan.from + m) - (plan.from + n) ≡ m - n = omega arith in
    let whole : (m - n) % period ≡ 0 =
    subst (λ (k : ℕ). k % period ≡ 0) gap (divided-gap (plan.from + n) (plan.from + m) period (omega arith) alike.place) in
    record {
      settled = settled-within plan.placed plan.from (plan.from + n) alike.one_settled i d inside;
      divided = λ live. divided-along _ period (m - n) (common.divided i d inside live) whole;
    }

pub recurring : (plan : Planning) (horizon first length : ℕ) → IsWellPlaced plan.placed → HasNoMiss plan horizon → IsRecurrence plan first length
    → first + length ≤ plan.from + horizon → NeverMisses plan
recurring plan horizon first length well none recurrence within =
    let n = recurrence.number in
    never-missed plan n (n + length) well (omega arith)
    (alike-repeats plan recurrence.period n (n + length) (omega arith) recurrence.least_common.common recurrence.alike)
    recurrence.alike.pending (λ m slot early known. none m slot (omega arith) known)
