-- A list of bits has one answer: some list is stuffed by it, or it has one first sixth equal bit, or it ends with five
-- equal bits.
use Rattle.std.proofs.Common.{◌≡◌, ℕ, zero, suc, ◌+◌, ◌<◌, ◌≤◌, Bool, true, false, leb, List, [], ◌∷◌, ◌++◌, length, get_or, take, drop, reverse, sym, ap, subst, ◌∙◌, ◌⊎◌, inl, inr, add-one, le_refl, arith}
use Rattle.std.proofs.lemmas.Bool.{cases_lt, cases_order, leb-true, le-leb}
use Rattle.std.proofs.lemmas.List.{reverse-append, reverse-reverse, take-append-drop, take-take, take_all}
use Rattle.stuff_bound.specs.Stuffing.{run, HasNoSix, without_stuff, Stuffs}
use Rattle.stuff_bound.proofs.Stuffs.{reverse-take_more}
use Rattle.stuff_bound.specs.StuffFault.{HasFirstSixth, EndsInFive}

-- where no six bits are equal, the last ones are not, and none were before
pub run-below_six : (sent : List Bool) → HasNoSix sent → run sent < 6
run-below_six [] no_six = omega arith
run-below_six (bit ∷ sent) no_six = no_six.0

HasNoSix-before : (later sent : List Bool) → HasNoSix (later ++ sent) → HasNoSix sent
HasNoSix-before [] sent no_six = no_six
HasNoSix-before (bit ∷ later) sent no_six = HasNoSix-before later sent no_six.1

pub HasNoSix-take : (wire : List Bool) (n : ℕ) → HasNoSix (reverse wire) → HasNoSix (reverse (take n wire))
HasNoSix-take wire n no_six =
    HasNoSix-before (reverse (drop n wire)) (reverse (take n wire))
    (subst HasNoSix (ap reverse (sym (take-append-drop n wire)) ∙ reverse-append (take n wire) (drop n wire)) no_six)

-- six equal neighbours rule the other answers out
pub not_with_sixth : (wire : List Bool) (place : ℕ) → HasFirstSixth wire place → HasNoSix (reverse wire) → ⊥
not_with_sixth wire place six no_six = grind (arith, run-below_six, HasNoSix-take)

-- also where the whole list was read
pub not_once_read : (wire : List Bool) (place n : ℕ) → length wire ≤ n → HasNoSix (reverse (take n wire)) → HasFirstSixth wire place → ⊥
not_once_read wire place n all no_six six = not_with_sixth wire place six (rw take_all at no_six)

-- and the first sixth equal bit is the only one
not_before : (wire : List Bool) (first second : ℕ) → HasFirstSixth wire first → HasFirstSixth wire second → first < second → ⊥
not_before wire first second h k before =
    let no_six : HasNoSix (reverse (take (first + 1) (take second wire))) = HasNoSix-take (take second wire) (first + 1) k.none_before in
    grind (arith, take-take, run-below_six)

pub first_sixth_only : (wire : List Bool) (first second : ℕ) → HasFirstSixth wire first → HasFirstSixth wire second → first ≡ second
first_sixth_only wire first second h k = grind (arith, cases_order, not_before)

-- a sixth equal bit where no six were equal before
pub first_sixth : (wire : List Bool) (place : ℕ) → place < length wire → HasNoSix (reverse (take place wire)) → leb 6 (run (get_or wire place false ∷ reverse (take place wire))) ≡ true → HasFirstSixth wire place
first_sixth wire place inside none_before six = grind (arith, reverse-take_more, leb-true)

-- six equal neighbours are found, or there are none
sixth_or_none : (wire : List Bool) (n : ℕ) → n ≤ length wire → HasNoSix (reverse (take n wire)) ⊎ ((place : ℕ) × HasFirstSixth wire place)
sixth_or_none wire zero inside = inl tt
sixth_or_none wire (suc n) inside =
    elim (sixth_or_none wire n (omega arith)) [
      | inl none ↦
          let more : reverse (take (suc n) wire) ≡ get_or wire n false ∷ reverse (take n wire) = rw (← add-one) (reverse-take_more wire n false (omega arith)) in
          elim (cases_lt (run (get_or wire n false ∷ reverse (take n wire))) 6) [
            | inl below ↦ inl (rw more (below, none))
            | inr six ↦ inr (n, first_sixth wire n (omega arith) none (le-leb 6 _ six))
          ]
      | inr six ↦ inr six
    ]

-- one of the three answers
pub some_answer : (wire : List Bool) → ((plain : List Bool) × Stuffs wire plain) ⊎ (((place : ℕ) × HasFirstSixth wire place) ⊎ EndsInFive wire)
some_answer wire =
    elim (sixth_or_none wire (length wire) (le_refl (length wire))) [
      | inl none ↦
          let all : take (length wire) wire ≡ wire = take_all (length wire) wire (le_refl (length wire)) in
          let no_six : HasNoSix (reverse wire) = rw all at none in
          let left = without_stuff (reverse wire) in
          elim (cases_lt (run (reverse wire)) 5) [
            | inl below ↦ inl (reverse left, record { no_six = no_six; ended = below; left = sym (reverse-reverse left) })
            | inr five ↦ inr (inr (record { no_six = no_six; five = omega (arith, run-below_six (reverse wire) no_six, five) }))
          ]
      | inr six ↦ inr (inl six)
    ]
