-- Fields with a comma between each two of them, taken one by one.
use Rattle.std.proofs.Common.{◌≡◌, ℕ, zero, suc, ◌+◌, ◌<◌, ◌++◌, ◌∙◌, List, [], ◌∷◌, Some, drop, length, slice_get, sym, ap, arith, append_assoc}
use Rattle.std.specs.List.{join_with_byte}

joined : (fields : List (List ℕ)) (place : ℕ) (field : List ℕ) → slice_get fields place ≡ Some field → suc place < length fields
    → join_with_byte 44 (drop place fields) ≡ field ++ 44 ∷ join_with_byte 44 (drop (suc place) fields)
joined [] place field at more = absurd (omega (arith, more))
joined (f ∷ []) place field at more = absurd (omega (arith, more))
joined (f ∷ g ∷ fields) zero field at more = let same : f ≡ field = cc in ap (λ x. x ++ 44 ∷ join_with_byte 44 (g ∷ fields)) same
joined (f ∷ g ∷ fields) (suc place) field at more = joined (g ∷ fields) place field at (omega (arith, more))

alone : (fields : List (List ℕ)) (place : ℕ) (field : List ℕ) → slice_get fields place ≡ Some field → suc place ≡ length fields
    → join_with_byte 44 (drop place fields) ≡ field
alone [] place field at last = absurd (omega (arith, last))
alone (f ∷ []) zero field at last = let same : f ≡ field = cc in same
alone (f ∷ []) (suc place) field at last = absurd (omega (arith, last))
alone (f ∷ g ∷ fields) zero field at last = absurd (omega (arith, last))
alone (f ∷ g ∷ fields) (suc place) field at last = alone (g ∷ fields) place field at (omega (arith, last))

-- these bytes are left once all fields before a place have come: whatever stands behind the fields that are left in them
-- stands behind all fields in the text
pub record AreLeft (fields : List (List ℕ)) (place : ℕ) (text rest : List ℕ) : Type 0 where
  pub whole : (more : List ℕ) → rest ≡ join_with_byte 44 (drop place fields) ++ more → text ≡ join_with_byte 44 fields ++ more

-- a field that is not the last one comes
pub one-field : (fields : List (List ℕ)) (place : ℕ) (field text rest later : List ℕ) → AreLeft fields place text rest
    → slice_get fields place ≡ Some field → place + 1 < length fields → rest ≡ field ++ 44 ∷ later → AreLeft fields (place + 1) text later
one-field fields place field text rest later left at more is = record {
  whole = λ after stands.
      let next : place + 1 ≡ suc place = omega arith in
      let others = join_with_byte 44 (drop (suc place) fields) in
      left.whole after (is ∙ ap (λ l. field ++ 44 ∷ l) (stands ∙ ap (λ n. join_with_byte 44 (drop n fields) ++ after) next)
      ∙ sym (append_assoc field (44 ∷ others) after) ∙ ap (λ l. l ++ after) (sym (joined fields place field at (omega (arith, more)))));
}

-- and then the last one, and a line feed
pub last-field : (fields : List (List ℕ)) (place : ℕ) (field text rest later : List ℕ) → AreLeft fields place text rest
    → slice_get fields place ≡ Some field → place + 1 ≡ length fields → rest ≡ field ++ 10 ∷ later
    → text ≡ (join_with_byte 44 fields ++ 10 ∷ []) ++ later
last-field fields place field text rest later left at last is =
    left.whole (10 ∷ later) (is ∙ ap (λ l. l ++ 10 ∷ later) (sym (alone fields place field at (omega (arith, last)))))
    ∙ sym (append_assoc (join_with_byte 44 fields) (10 ∷ []) later)
