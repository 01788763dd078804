-- Cycles that are some whole steps after a first one, and the sets of a block that are marked there.
use Rattle.std.proofs.Common.{◌≡◌, ◌≢◌, ℕ, ◌+◌, ◌-◌, ◌*◌, ◌/◌, ◌%◌, ◌<◌, ◌≤◌, ◌&&◌, ◌||◌, Bool, true, false, nat_eq, nat_le, nat_lt, List, length, set, sym, ap, ◌∙◌, ⊎_elim, arith, get_or-set_other, get_or-set_same}
use Rattle.std.proofs.Math.Nat.{add-mul-mod_self_right, mul-add-mod_self_right}
use Rattle.std.proofs.lemmas.Bool.{cases_eq, cases_lt, cases_order, le-leb}
use Rattle.std.proofs.lemmas.Bool.Decides.{nat_tests}
use Rattle.std.proofs.lemmas.Nat.{div-add-mod', mod-mul-add}
use Rattle.bit_sets.specs.Sets.{has_bit}
use Rattle.plan_check.specs.Blocks.{AreMarked, has_at, meets}

-- Cycles counted from another one

pub offset-whole : (first step from i : ℕ) → first < from → (from - first) % step ≡ 0 → meets 0 step i ≡ meets first step (from + i)
offset-whole first step from i earlier whole =
    let q = (from - first) / step in
    let since : from + i - first ≡ q * step + i = omega arith in
    grind (arith, mul-add-mod_self_right, le-leb)

false-le : (a b : ℕ) → b < a → nat_le a b ≡ false
false-le a b less = grind (arith, nat_tests)

false-eq : (a b : ℕ) → (a ≡ b → ⊥) → nat_eq a b ≡ false
false-eq a b other = grind (arith, nat_tests)

and-false : (b : Bool) → (b && false) ≡ false
and-false b = grind arith

and-both : (a b : Bool) → (a && (b && false)) ≡ false
and-both a b = grind arith

pub offset-rest : (first step from i after : ℕ) → 1 ≤ step → first < from → after ≡ (from - first) % step → 0 < after
    → meets (step - after) step i ≡ meets first step (from + i)
offset-rest first step from i after some earlier is rest =
    let q = (from - first) / step in
    let begun : nat_le first (from + i) ≡ true = le-leb first (from + i) (omega arith) in
    ⊎_elim
    (λ (early : i < step - after).
    let none = false-le (step - after) i early in
    let since : from + i - first ≡ q * step + (after + i) = omega arith in
    let left : (from + i - first) % step ≡ after + i = ap (λ n. n % step) since ∙ mod-mul-add q step (after + i) (omega arith) in
    let not_whole = false-eq ((from + i - first) % step) 0 (λ wrong. omega arith) in
    ap (λ b. b && nat_eq ((i - (step - after)) % step) 0) none
    ∙ sym (ap (λ b. nat_le first (from + i) && b) not_whole ∙ and-false (nat_le first (from + i))))
    (λ (late : step - after ≤ i).
    let j = i - (step - after) in
    let test = le-leb (step - after) i late in
    let since : from + i - first ≡ (q + 1) * step + j = omega arith in
    let left : (from + i - first) % step ≡ j % step = ap (λ n. n % step) since ∙ mul-add-mod_self_right (q + 1) step j in
    ap (λ b. b && nat_eq (j % step) 0) test
    ∙ sym (ap (λ b. b && nat_eq ((from + i - first) % step) 0) begun ∙ ap (λ n. nat_eq n 0) left))
    (cases_lt i (step - after))

-- Sets that are marked

-- those below a place are marked
pub record IsMarking (first step end one : ℕ) (old sets : List ℕ) (at : ℕ) : Type 0 where
  pub count : length sets ≡ 256
  pub after : first ≤ at
  pub whole : (at - first) % step ≡ 0
  pub sets_are : AreMarked 256 (λ i. nat_lt i at && (nat_lt i end && meets first step i)) one old sets

module _ (first step end one : ℕ) (old sets : List ℕ) (at : ℕ) (some : 1 ≤ step) (before : at < end) (within : end ≤ 256)
    (marking : IsMarking first step end one old sets at) where
  before-test : (nat_lt at at && (nat_lt at end && meets first step at)) ≡ false
  before-test = let late : nat_lt at at ≡ false = grind (arith, nat_tests) in ap (λ b. b && (nat_lt at end && meets first step at)) late

  -- between two marks there is none
  between : (i : ℕ) → at < i → i < at + step → meets first step i ≡ false
  between i above below =
      let q = (at - first) / step in
      let parts = div-add-mod' (at - first) step in
      let since : i - first ≡ q * step + (i - at) = omega arith in
      grind (arith, mod-mul-add, false-eq, and-false)

  other-test : (i : ℕ) → i ≢ at
      → (nat_lt i at && (nat_lt i end && meets first step i)) ≡ (nat_lt i (at + step) && (nat_lt i end && meets first step i))
  other-test i other =
      ⊎_elim
      (λ (same : i ≡ at). absurd (other same))
      (grind (arith, nat_lt, nat_tests, later))
      (cases_order i at)
    where
      later : (i : ℕ) → at < i → (nat_lt i (at + step) && (nat_lt i end && meets first step i)) ≡ false
      later i above =
          ⊎_elim
          (λ (near : i < at + step).
          ap (λ b. nat_lt i (at + step) && (nat_lt i end && b)) (between i above near) ∙ and-both (nat_lt i (at + step)) (nat_lt i end))
          (λ (far : at + step ≤ i).
          let no' : nat_lt i (at + step) ≡ false = grind (arith, nat_tests) in
          ap (λ b. b && (nat_lt i end && meets first step i)) no')
          (cases_lt i (at + step))

  pub marking-next : (index new : ℕ) → index ≡ at
      → ((slot : ℕ) → has_bit new slot ≡ (has_at sets index slot || has_bit one slot))
      → length (set sets index new) ≡ length sets
      → IsMarking first step end one old (set sets index new) (at + step)
  marking-next index new same made count =
      let after = marking.after in
      let whole = marking.whole in
      let since : at + step - first ≡ (at - first) + 1 * step = omega arith in
      record {
        count = count ∙ marking.count;
        after = omega arith;
        whole = ap (λ n. n % step) since ∙ add-mul-mod_self_right (at - first) 1 step ∙ whole;
        sets_are = λ i slot low.
            ⊎_elim
            (λ (is : i ≡ at). grind (arith, get_or-set_same, nat_lt, before-test))
            (λ (other : i ≢ at).
            let apart : i ≢ index = λ is. other (is ∙ same) in
            ap (λ n. has_bit n slot) (get_or-set_other sets index i new 0 apart) ∙ marking.sets_are i slot low
            ∙ ap (λ b. has_at old i slot || (has_bit one slot && b)) (other-test i other))
            (cases_eq i at);
      }

-- marks by one test are marks by another that is the same below a number
pub marked-as : (count : ℕ) (p q : ℕ → Bool) (one : ℕ) (old new : List ℕ) → count ≤ 256 → ((i : ℕ) → i < count → p i ≡ q i)
    → AreMarked 256 p one old new → AreMarked count q one old new
marked-as count p q one old new few same marked = grind arith
