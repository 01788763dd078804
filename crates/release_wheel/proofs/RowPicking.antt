-- The row of a set that goes first by its last cycle.
use Rattle.std.proofs.Common.{◌≡◌, ◌≢◌, ℕ, ◌<◌, ◌≤◌, ◌&&◌, not, Bool, true, false, nat_eq, nat_le, if◌then◌else◌, List, get_or, length, refl, sym, ap, ◌∙◌, ◌⊎◌, inl, ⊎_elim, arith}
use Rattle.std.proofs.lemmas.Grind.{common_steps}
use Rattle.std.proofs.lemmas.Bool.{and_from, and_parts, both_ways, cases_Bool, cases_eq, cases_lt, or_cases}
use Rattle.std.proofs.lemmas.Bool.Decides.{nat_tests}
use Rattle.planner_policies.specs.Plan.{by_number}
use Rattle.release_wheel.specs.declared.wheel.Wheel.{Wheel}
use Rattle.release_wheel.specs.Taking.{AreDue, IsFirstRow, IsSoonest, goes_by, last_of}
use Rattle.release_wheel.specs.Wheel.{HasRoom, IsBelow}
use Rattle.bit_sets.specs.Sets.{has_bit}
use Rattle.release_wheel.proofs.RowLines.{by-parts, by-place}
use Rattle.bit_sets.proofs.Shared.{from-first, has_bit-none, not-first}

by-less : (a b i j : ℕ) → a < b → by_number a b (nat_le i j) ≡ true
by-less a b i j less = grind (arith, nat_tests)

by-le : (a b i j : ℕ) → a ≤ b → i ≤ j → by_number a b (nat_le i j) ≡ true
by-le a b i j less from = grind (arith, nat_tests)

-- before a row is looked at
pub looking-start : (lasts : List ℕ) (rows row : ℕ) → has_bit rows row ≡ true → ((i : ℕ) → i < row → has_bit rows i ≡ false)
    → IsSoonest lasts rows rows row (get_or lasts row 0)
looking-start lasts rows row stands none = record {
  stands = stands;
  last_is = refl;
  rest_in = λ i in'. in';
  before = λ i in'. from-first rows row i none in';
  first = λ i in' out. absurd (both_ways (has_bit rows i) out in');
}

-- one more is looked at
module _ (lasts : List ℕ) (rows rest less row last next : ℕ) (s : IsSoonest lasts rows rest row last) (stands : has_bit rest next ≡ true)
    (none : (i : ℕ) → i < next → has_bit rest i ≡ false) (made : (i : ℕ) → has_bit less i ≡ (not (nat_eq next i) && has_bit rest i)) where
  less-in : (i : ℕ) → has_bit less i ≡ true → has_bit rest i ≡ true
  less-in i in' = (and_parts (not (nat_eq next i)) (has_bit rest i) (sym (made i) ∙ in')).1

  -- it is over sooner
  pub looking-sooner : get_or lasts next 0 < last → IsSoonest lasts rows less next (get_or lasts next 0)
  looking-sooner sooner = record {
    stands = s.rest_in next stands;
    last_is = refl;
    rest_in = λ i in'. s.rest_in i (less-in i in');
    before = λ i in'. from-first rest next i none (less-in i in');
    first = λ i in' out.
        ⊎_elim
        (λ (same : next ≡ i). by-le (get_or lasts next 0) (get_or lasts i 0) next i (let at = ap (λ j. get_or lasts j 0) same in omega arith) (omega arith))
        (λ (other : next ≢ i). grind (arith, common_steps, by-parts, not-first, out, by-less))
        (cases_eq next i);
  }

  -- it is not
  pub looking-on : last ≤ get_or lasts next 0 → IsSoonest lasts rows less row last
  looking-on later = record {
    stands = s.stands;
    last_is = s.last_is;
    rest_in = λ i in'. s.rest_in i (less-in i in');
    before = λ i in'. s.before i (less-in i in');
    first = λ i in' out.
        ⊎_elim
        (λ (same : next ≡ i). grind (arith, by-le))
        (λ (other : next ≢ i). s.first i in' (not-first rest less next i made out other))
        (cases_eq next i);
  }

-- when all are looked at
pub looking-end : (lasts : List ℕ) (rows rest row last : ℕ) → IsSoonest lasts rows rest row last → rest ≡ 0
    → IsFirstRow (goes_by (λ row. get_or lasts row 0)) (has_bit rows) row
looking-end lasts rows rest row last s none = grind (arith, has_bit-none)

-- rows that are due are rows of the wheel
pub due-below : (w : Wheel) (due : ℕ) → HasRoom (length w.rows.entries.items) w.rows w.dues → AreDue w due → IsBelow (length w.rows.entries.items) due
due-below w due h0 h1 = grind (arith, or_cases)

-- and so are some of them
pub due-less : (w : Wheel) (due rest : ℕ) → AreDue w due → ((row : ℕ) → has_bit rest row ≡ true → has_bit due row ≡ true) → AreDue w rest
due-less w due rest are rest_in = grind arith

-- among rows with an instance in each cycle and rows that wait
module _ (w : Wheel) (rest always : ℕ) (due : AreDue w rest) (always_is : (i : ℕ) → has_bit always i ≡ (has_bit rest i && has_bit w.dues.always.rows i)) where
  abbrev lasts : ℕ → ℕ
  lasts i = get_or w.rows.lasts.items i 0

  last-out : (i : ℕ) → has_bit w.dues.always.rows i ≡ false → last_of w i ≡ get_or w.rows.lasts.items i 0
  last-out i off = ap (λ b. if b then w.cycle else get_or w.rows.lasts.items i 0) off

  waits : (i : ℕ) → has_bit rest i ≡ true → has_bit w.dues.always.rows i ≡ false → has_bit w.dues.waiting.rows i ≡ true
  waits i in' off = grind (arith, off, both_ways, or_cases)

  -- all wait
  pub only-waiting : (row : ℕ) → always ≡ 0 → IsFirstRow (goes_by (λ row. get_or w.rows.lasts.items row 0)) (has_bit rest) row
      → IsFirstRow (goes_by (last_of w)) (has_bit rest) row
  only-waiting row none first = record {
    stands = first.stands;
    first = grind (arith, last-out, off);
  }
    where
      out : (a b : Bool) → a ≡ true → (a && b) ≡ false → b ≡ false
      out a b is none = grind (arith, common_steps)

      off : (i : ℕ) → has_bit rest i ≡ true → has_bit w.dues.always.rows i ≡ false
      off i in' = out (has_bit rest i) (has_bit w.dues.always.rows i) in' (sym (always_is i) ∙ ap (λ m. has_bit m i) none ∙ has_bit-none i)

  -- the first of those with an instance in each cycle
  module _ (own : ℕ) (stands : has_bit always own ≡ true) (none : (i : ℕ) → i < own → has_bit always i ≡ false) where
    parts : has_bit rest own ≡ true × has_bit w.dues.always.rows own ≡ true
    parts = and_parts (has_bit rest own) (has_bit w.dues.always.rows own) (sym (always_is own) ∙ stands)

    from-own : (i : ℕ) → has_bit rest i ≡ true → has_bit w.dues.always.rows i ≡ true → own ≤ i
    from-own i in' on = from-first always own i none (always_is i ∙ and_from (has_bit rest i) (has_bit w.dues.always.rows i) in' on)

    -- it goes first where all that wait are later, or as late and behind it
    pub own-first : ((i : ℕ) → has_bit rest i ≡ true → has_bit w.dues.waiting.rows i ≡ true → (w.cycle < get_or w.rows.lasts.items i 0) ⊎ (own ≤ i))
        → IsFirstRow (goes_by (last_of w)) (has_bit rest) own
    own-first later = record {
      stands = parts.0;
      first = λ other in'.
          ⊎_elim
          (λ (on : has_bit w.dues.always.rows other ≡ true). grind (arith, common_steps, by-le, parts, from-own))
          (λ (off : has_bit w.dues.always.rows other ≡ false). grind (arith, waits, off, parts, last-out, by-less, by-le))
          (cases_Bool (has_bit w.dues.always.rows other));
    }

    -- and that of those which wait
    module _ (waiting row : ℕ) (waiting_is : (i : ℕ) → has_bit waiting i ≡ (has_bit rest i && has_bit w.dues.waiting.rows i))
        (first : IsFirstRow (goes_by (λ row. get_or w.rows.lasts.items row 0)) (has_bit waiting) row) where
      in-waiting : (i : ℕ) → has_bit rest i ≡ true → has_bit w.dues.waiting.rows i ≡ true → has_bit waiting i ≡ true
      in-waiting i in' wait = waiting_is i ∙ and_from (has_bit rest i) (has_bit w.dues.waiting.rows i) in' wait

      row-parts : has_bit rest row ≡ true × has_bit w.dues.waiting.rows row ≡ true
      row-parts = and_parts (has_bit rest row) (has_bit w.dues.waiting.rows row) (sym (waiting_is row) ∙ first.stands)

      row-after : (i : ℕ) → has_bit rest i ≡ true → has_bit w.dues.waiting.rows i ≡ true → get_or w.rows.lasts.items row 0 ≤ get_or w.rows.lasts.items i 0
      row-after i in' wait = by-parts (lasts row) (lasts i) row i (first.first i (in-waiting i in' wait))

      pub own-sooner : w.cycle < get_or w.rows.lasts.items row 0 → IsFirstRow (goes_by (last_of w)) (has_bit rest) own
      own-sooner sooner = own-first (λ i in' wait. let after = row-after i in' wait in inl (omega arith))

      pub own-before : get_or w.rows.lasts.items row 0 ≤ w.cycle → own < row → IsFirstRow (goes_by (last_of w)) (has_bit rest) own
      own-before last before = grind (arith, own-first, row-parts, by-place, in-waiting, cases_lt)

      pub row-first : get_or w.rows.lasts.items row 0 ≤ w.cycle → row ≤ own → IsFirstRow (goes_by (last_of w)) (has_bit rest) row
      row-first last before = record {
        stands = row-parts.0;
        first = λ other in'.
            let here = last-out row (due.apart row row-parts.1) in
            ⊎_elim
            (λ (on : has_bit w.dues.always.rows other ≡ true). grind (arith, from-own, by-le))
            (λ (off : has_bit w.dues.always.rows other ≡ false). grind (arith, common_steps, last-out, off, in-waiting, waits))
            (cases_Bool (has_bit w.dues.always.rows other));
      }
