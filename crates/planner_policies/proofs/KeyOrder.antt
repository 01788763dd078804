-- Key order is a total order.
use Rattle.std.proofs.Common.{◌≡◌, ℕ, true, false, nat_le, List, arith}
use Rattle.std.proofs.lemmas.Bool.Decides.{nat_tests}
use Rattle.requirement_table.specs.declared.entries.Placed.{Placed}
use Rattle.planner_policies.specs.declared.Policy.{Policy}
use Rattle.planner_policies.specs.declared.due.Due.{Due}
use Rattle.planner_policies.specs.Due.{is_due_by}
use Rattle.planner_policies.specs.Plan.{by_number, is_by, key_in, priority_in}

-- three numbers compared one after the other, the last one by ≤
by-refl : (a b c : ℕ) → by_number a a (by_number b b (nat_le c c)) ≡ true
by-refl a b c = grind (arith, nat_tests)

by-total : (a b c a' b' c' : ℕ) → by_number a a' (by_number b b' (nat_le c c')) ≡ false → by_number a' a (by_number b' b (nat_le c' c)) ≡ true
by-total a b c a' b' c' wrong = grind (arith, nat_tests)

by-antisym : (a b c a' b' c' : ℕ) → by_number a a' (by_number b b' (nat_le c c')) ≡ true → by_number a' a (by_number b' b (nat_le c' c)) ≡ true
    → c ≡ c'
by-antisym a b c a' b' c' one other = grind (arith, nat_tests)

by-trans : (a b c a' b' c' a'' b'' c'' : ℕ) → by_number a a' (by_number b b' (nat_le c c')) ≡ true
    → by_number a' a'' (by_number b' b'' (nat_le c' c'')) ≡ true → by_number a a'' (by_number b b'' (nat_le c c'')) ≡ true
by-trans a b c a' b' c' a'' b'' c'' one other = grind (arith, nat_tests)

pub due_by-total : (one other : Due) → is_due_by one other ≡ false → is_due_by other one ≡ true
due_by-total one other wrong = by-total one.key one.priority one.slot other.key other.priority other.slot wrong

pub due_by-trans : (one other third : Due) → is_due_by one other ≡ true → is_due_by other third ≡ true → is_due_by one third ≡ true
due_by-trans one other third first second = grind (arith, by-trans)

pub is_by-refl : (policy : Policy) (placed : List Placed) (c slot : ℕ) → is_by policy placed c slot slot ≡ true
is_by-refl policy placed c slot = by-refl (key_in policy placed c slot) (priority_in placed c slot) slot

pub is_by-total : (policy : Policy) (placed : List Placed) (c one other : ℕ) → is_by policy placed c one other ≡ false → is_by policy placed c other one ≡ true
is_by-total policy placed c one other wrong = grind (arith, by-total)

pub is_by-antisym : (policy : Policy) (placed : List Placed) (c one other : ℕ) → is_by policy placed c one other ≡ true
    → is_by policy placed c other one ≡ true → one ≡ other
is_by-antisym policy placed c one other first second = grind (arith, by-antisym)

pub is_by-trans : (policy : Policy) (placed : List Placed) (c one other third : ℕ) → is_by policy placed c one other ≡ true
    → is_by policy placed c other third ≡ true → is_by policy placed c one third ≡ true
is_by-trans policy placed c one other third first second = grind (arith, by-trans)
