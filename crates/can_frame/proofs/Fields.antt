-- The bits of a number in a field, and the number of a field's bits.
use Rattle.std.proofs.Common.{◌≡◌, ℕ, zero, suc, ◌+◌, ◌-◌, ◌*◌, ◌/◌, ◌%◌, ◌^◌, ◌<◌, ◌≤◌, Bool, cond, List, [], ◌∷◌, ◌++◌, bit_and, nat_eq, append_assoc, refl, sym, ap, ◌∙◌, arith}
use Rattle.std.proofs.Math.Nat.{div-div-eq-div-mul, pow-suc, sub_self}
use Rattle.std.proofs.lemmas.List.{append-nil}
use Rattle.std.proofs.lemmas.List.Sums.{fold_push}
use Rattle.std.proofs.lemmas.Nat.{and_mask}
use Rattle.stuff_bound.specs.Fields.{bits}
use Rattle.can_frame.specs.Number.{number}

-- before the first bit of a field was put behind a list
pub bits-none : (sent : List Bool) (width value : ℕ) → sent ≡ sent ++ bits (width - width) value
unfolding bits
bits-none sent width value = rw sub_self (sym (append-nil sent))

-- the bits of a number above a place, and the bit at it
bits-place : (width place value : ℕ) → place < width → bits (width - suc place) (value / 2 ^ suc place) ++ nat_eq (bit_and (value / 2 ^ place) 1) 1 ∷ [] ≡ bits (width - place) (value / 2 ^ place)
unfolding bits
bits-place width place value h =
    let widths : width - place ≡ suc (width - suc place) = omega arith in
    let halves : value / 2 ^ suc place ≡ value / 2 ^ place / 2 = ap (λ n. value / n) (pow-suc 2 place) ∙ sym (div-div-eq-div-mul value (2 ^ place) 2) in
    let bit : bit_and (value / 2 ^ place) 1 ≡ value / 2 ^ place % 2 = and_mask (value / 2 ^ place) 1 in
    rw (widths, halves, bit) refl

-- the next bit of a field was put behind those above it
pub bits-next : (start old new : List Bool) (width place value : ℕ) → 0 < place → place ≤ width
    → old ≡ start ++ bits (width - place) (value / 2 ^ place) → new ≡ old ++ nat_eq (bit_and (value / 2 ^ (place - 1)) 1) 1 ∷ []
    → new ≡ start ++ bits (width - (place - 1)) (value / 2 ^ (place - 1))
bits-next start old new width zero value h k before pushed = absurd (omega arith)
bits-next start old new width (suc place) value h k before pushed = grind (arith, bits-place, bit_and, append_assoc)

-- the number of a bit, and the bit of that number
abbrev pub bit_number : Bool → ℕ
bit_number bit = cond bit 1 0

-- a field of enough bits has its number
pub number-bits : (width value : ℕ) → value < 2 ^ width → number (bits width value) ≡ value
unfolding bits
number-bits zero value h = omega arith
number-bits (suc width) value h =
    let above : number (bits width (value / 2)) ≡ value / 2 = number-bits width (value / 2) (omega arith) in
    grind (arith, fold_push)

-- one more bit of a field that is read
pub bits_more : (width value : ℕ) (bit : Bool) → bits (width + 1) (2 * value + bit_number bit) ≡ bits width value ++ bit ∷ []
unfolding bits
bits_more width value bit = grind arith
