-- The instances of rows of a set, as a line.
use Rattle.std.proofs.Common.{◌≡◌, ◌≢◌, ℕ, zero, suc, ◌+◌, ◌<◌, ◌≤◌, ◌&&◌, ◌||◌, not, Bool, true, false, nat_eq, nat_le, if◌then◌else◌, Some, None, List, [], ◌∷◌, All, AllPairs, IsPermutation, get_or, length, take, refl, sym, ap, ◌∙◌, ⊎_elim, arith}
use Rattle.std.proofs.lemmas.Grind.{common_steps}
use Rattle.std.proofs.Math.Bool.{or-false, or_comm}
use Rattle.std.specs.List.{list_any}
use Rattle.std.proofs.lemmas.Bool.{and_from, and_parts, cases_eq, cases_lt, eqb-true, false_from_ne_true, leb-true, lt-ltb, ne_eqb, or_cases}
use Rattle.std.proofs.lemmas.Bool.Decides.{nat_tests}
use Rattle.std.proofs.lemmas.List.Elements.{All-head, All-tail}
use Rattle.std.proofs.lemmas.List.Folds.{Any-from_list_any}
use Rattle.requirement_table.specs.declared.entries.Placed.{Placed}
use Rattle.bit_sets.specs.Sets.{sum_where}
use Rattle.requirement_table.specs.Table.{IsWellPlaced}
use Rattle.planner_policies.specs.declared.Policy.{Policy}
use Rattle.planner_policies.specs.declared.Policy.TheVariants.{Rm, Dm, Edf}
use Rattle.planner_policies.specs.declared.due.Due.{Due}
use Rattle.planner_policies.specs.Due.{IsDueOf, IsLined, is_due_by}
use Rattle.planner_policies.specs.Plan.{Planning, by_number}
use Rattle.planner_policies.specs.Ranked.{AreRanked}
use Rattle.release_wheel.specs.Taking.{IsLineOfRows, goes_by}
use Rattle.release_wheel.specs.Wheel.{any_below, cost_at, due_of_row, no_entry, slot_at}
use Rattle.planner_policies.proofs.Shared.{any-between, cost-between, put-somewhere, has_slot, IsLineOf, line_of-more, line_of-none, line_of-start, more-of, stands-in, cost_of}

-- what the rows have to send in a cycle
pub record AreDues (plan : Planning) (c : ℕ) (before : ℕ → Bool) (entries : List Placed) (test : ℕ → Bool) (dues : ℕ → Due) : Type 0 where
  pub of : (row : ℕ) → row < length entries
      → IsDueOf plan.policy before c (get_or entries row no_entry) (if test row then Some (dues row) else None)
  pub slot : (row : ℕ) → (dues row).slot ≡ slot_at entries row
  pub cost : (row : ℕ) → (dues row).cost ≡ cost_at entries row

module _ (plan : Planning) (c : ℕ) (before : ℕ → Bool) (entries : List Placed) (test : ℕ → Bool) (dues : ℕ → Due)
    (well : IsWellPlaced plan.placed) (same : IsPermutation plan.placed entries) (are : AreDues plan c before entries test dues) where
  -- the instances of the first `n` rows, in key order
  pub record IsLineTo (n : ℕ) : Type 0 where
    pub line : List Due
    pub found : IsLineOf plan c before (take n entries) line
    pub slots : (slot : ℕ) → list_any (has_slot slot) line ≡ any_below n (λ row. test row && nat_eq (slot_at entries row) slot)
    pub cost : cost_of line ≡ sum_where n test (cost_at entries)

  line-start : IsLineTo 0
  unfolding any_below sum_where
  line-start = grind (arith, before, line_of-start)

  line-more : (n : ℕ) → n < length entries → (b : Bool) → test n ≡ b
      → IsDueOf plan.policy before c (get_or entries n no_entry) (if b then Some (dues n) else None) → IsLineTo n → IsLineTo (suc n)
  unfolding any_below sum_where
  line-more n within true is pending so_far =
      let stands = stands-in plan.placed entries n no_entry same within in
      let line = so_far.line in
      let due = dues n in
      let more = more-of plan c before entries n no_entry line due well same within stands so_far.found pending in
      let place = put-somewhere line due so_far.found.lined in
      let put = place.put in
      let next : n + 1 ≡ suc n = omega arith in
      let sum : cost_of place.after ≡ due.cost + cost_of line
      = ap cost_of put.is ∙ cost-between put.front due put.back ∙ ap (λ (xs : List Due). due.cost + cost_of xs) (sym put.was) in
      record {
        line = place.after;
        found = rw next at (line_of-more plan c before entries n no_entry line place.after due within so_far.found more put);
        slots = grind (arith, has_slot, any-between, or_comm);
        cost = rw is (omega arith);
      }
  line-more n within false is none so_far =
      let stands = stands-in plan.placed entries n no_entry same within in
      let next : n + 1 ≡ suc n = omega arith in
      record {
        line = so_far.line;
        found = rw next at (line_of-none plan c before entries n no_entry so_far.line well within stands so_far.found none);
        slots = grind (arith, or-false);
        cost = rw is (omega arith);
      }

  pub line-to : (n : ℕ) → n ≤ length entries → IsLineTo n
  line-to zero within = line-start
  line-to (suc n) within =
      line-more n (omega arith) (test n) refl (are.of n (omega arith)) (line-to n (omega arith))

-- a row of a set whose instance is kept
pub record IsOneOf (dues : ℕ → Due) (test : ℕ → Bool) (due : Due) : Type 0 where
  pub row : ℕ
  pub stands : test row ≡ true
  pub is : due ≡ dues row

-- the first instance of a list in key order, with one instance for each row of a set
module _ (dues : ℕ → Due) (test : ℕ → Bool) (d : Due) (line : List Due) (own : IsOneOf dues test d)
    (distinct : (one other : ℕ) → test one ≡ true → test other ≡ true → (dues one).slot ≡ (dues other).slot → one ≡ other)
    (each : All (IsOneOf dues test) line) (lined : IsLined (d ∷ line)) (apart : AllPairs (λ one other. one.slot ≢ other.slot) (d ∷ line)) where
  abbrev less : ℕ → Bool
  less other = not (nat_eq own.row other) && test other

  less-in : (other : ℕ) → less other ≡ true → test other ≡ true
  less-in other in' = (and_parts (not (nat_eq own.row other)) (test other) in').1

  one-less : (k : ℕ) (e : Due) → k < length line → IsOneOf dues less (get_or line k e)
  one-less k e within =
      let one = each k e within in
      record {
        row = one.row;
        stands = and_from (not (nat_eq own.row one.row)) (test one.row)
            (ap not (ne_eqb own.row one.row (λ same.
            apart 0 (suc k) e (omega arith) (omega arith) (ap (λ x. x.slot) (own.is ∙ ap dues same ∙ sym one.is)))))
            one.stands;
        is = one.is;
      }

  goes-first : (other : ℕ) → test other ≡ true → list_any (has_slot (dues other).slot) (d ∷ line) ≡ true → is_due_by (dues own.row) (dues other) ≡ true
  goes-first other in' found =
      ⊎_elim
      (λ (here : nat_eq d.slot (dues other).slot ≡ true). grind (arith, eqb-true))
      (λ (behind : list_any (has_slot (dues other).slot) line ≡ true).
      let any = Any-from_list_any (has_slot (dues other).slot) line behind in
      let one = each any.0 any.1 any.2 in
      let slots : (dues one.row).slot ≡ (dues other).slot
      = ap (λ x. x.slot) (sym one.is ∙ any.3) ∙ eqb-true any.1.slot (dues other).slot any.4 in
      let same = distinct one.row other one.stands in' slots in
      ap (λ x. is_due_by x (dues other)) (sym own.is) ∙ ap (λ x. is_due_by d x) (ap dues (sym same) ∙ sym one.is)
      ∙ lined 0 (suc any.0) any.1 (omega arith) (omega arith))
      (or_cases (nat_eq d.slot (dues other).slot) (list_any (has_slot (dues other).slot) line) found)

  stands-behind : (other : ℕ) → less other ≡ true → list_any (has_slot (dues other).slot) (d ∷ line) ≡ true
      → list_any (has_slot (dues other).slot) line ≡ true
  stands-behind other in' found = grind (arith, less-in, eqb-true, has_slot, or_cases)

-- such a list is the line of the set
pub line_of-rows : (dues : ℕ → Due) (test : ℕ → Bool) (line : List Due)
    → ((one other : ℕ) → test one ≡ true → test other ≡ true → (dues one).slot ≡ (dues other).slot → one ≡ other)
    → All (IsOneOf dues test) line → IsLined line → AllPairs (λ one other. one.slot ≢ other.slot) line
    → ((row : ℕ) → test row ≡ true → list_any (has_slot (dues row).slot) line ≡ true) → IsLineOfRows dues test line
line_of-rows dues test [] distinct each lined apart all = λ row. false_from_ne_true (test row) (λ in'. let none : false ≡ true = all row in' in cc)
line_of-rows dues test (d ∷ line) distinct each lined apart all =
    let own = All-head (IsOneOf dues test) d line each in
    let others = All-tail (IsOneOf dues test) d line each in
    let in_test = less-in dues test d line own distinct others lined apart in (
      own.row,
      record { stands = own.stands; first = λ other in'. goes-first dues test d line own distinct others lined apart other in' (all other in') },
      own.is,
      line_of-rows dues (λ other. not (nat_eq own.row other) && test other) line
          (λ one other in_one in_other. distinct one other (in_test one in_one) (in_test other in_other))
          (one-less dues test d line own distinct others lined apart)
          (λ i j e before within. lined (suc i) (suc j) e (omega arith) (omega arith))
          (λ i j e before within. apart (suc i) (suc j) e (omega arith) (omega arith))
          (λ other in'. stands-behind dues test d line own distinct others lined apart other in' (all other (in_test other in'))),
    )

-- in the order of a policy of entries, rows are in key order
pub by-rank : (policy : Policy) (entries : List Placed) (lasts : ℕ → ℕ) → policy ≢ Edf → AreRanked policy entries
    → (i j : ℕ) → i < length entries → j < length entries → nat_le i j ≡ true
    → is_due_by (due_of_row policy (get_or entries i no_entry) (lasts i)) (due_of_row policy (get_or entries j no_entry) (lasts j)) ≡ true
by-rank policy entries lasts other ranked i j below within goes =
    ⊎_elim
    (λ (same : i ≡ j). grind arith)
    (λ (apart : i ≢ j). let from = leb-true i j goes in before policy other ranked (omega arith))
    (cases_eq i j)
  where
    before : (policy : Policy) → policy ≢ Edf → AreRanked policy entries → i < j
        → is_due_by (due_of_row policy (get_or entries i no_entry) (lasts i)) (due_of_row policy (get_or entries j no_entry) (lasts j)) ≡ true
    before policy other ranked less = grind (arith, common_steps)

-- what rows that go by their last cycles have of these and of their places
pub by-parts : (a b i j : ℕ) → by_number a b (nat_le i j) ≡ true → a ≤ b
by-parts a b i j goes = grind (arith, nat_tests)

pub by-place : (a b i j : ℕ) → by_number a b (nat_le i j) ≡ true → b ≤ a → i ≤ j
by-place a b i j goes back = grind (arith, nat_tests)

by-less : (a b : ℕ) (t : Bool) → a < b → by_number (a + 1) (b + 1) t ≡ true
by-less a b t less = ap (λ x. x || (nat_eq (a + 1) (b + 1) && t)) (lt-ltb (a + 1) (b + 1) (omega arith))

-- by their last cycles, and then in the order that breaks ties, they are so for `Edf`
pub by-last : (entries : List Placed) (lasts : ℕ → ℕ) → AreRanked Edf entries → (i j : ℕ) → i < length entries → j < length entries
    → goes_by lasts i j ≡ true
    → is_due_by (due_of_row Edf (get_or entries i no_entry) (lasts i)) (due_of_row Edf (get_or entries j no_entry) (lasts j)) ≡ true
by-last entries lasts ranked i j below within goes = grind (arith, by-less, by-parts, by-place, cases_lt)
