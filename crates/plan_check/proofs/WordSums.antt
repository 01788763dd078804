-- Sums over the set bits of a word, lowest first, and over two words.
use Rattle.std.proofs.Common.{◌≡◌, ◌≢◌, ℕ, zero, suc, ◌+◌, ◌-◌, ◌*◌, ◌/◌, ◌%◌, ◌^◌, ◌<◌, ◌≤◌, Bool, false, not, ◌&&◌, nat_eq, bit_and, sym, ap, ◌∙◌, arith}
use Rattle.std.specs.Int.{trailing_zeros, w64}
use Rattle.std.proofs.Math.Bool.{and-false}
use Rattle.std.proofs.lemmas.Bool.{both_ways, cases_lt, eq-eqb, ne_eqb}
use Rattle.std.proofs.lemmas.Nat.{div-add-mod'}
use Rattle.std.proofs.lemmas.Nat.Bits.{bit_at-trailing_zeros}
use Rattle.bit_sets.specs.Sets.{has_bit, most_slots, sum_where}
use Rattle.bit_sets.proofs.Shared.{IsLowest, has_bit-above, has_bit-high, has_bit-low, has_bit-none, has_bit-without_lowest, lowest-64, sum_where-next, sum_where-none, sum_where-same, sum_where-without, sum_where-zero}

-- how far the set bits of a word are counted: those below a place
pub record IsCounted (f : ℕ → ℕ) (word left sum : ℕ) : Type 0 where
  pub place : ℕ
  pub within : place ≤ 64
  pub clear : (i : ℕ) → i < place → has_bit left i ≡ false
  pub small : sum ≤ 255 * place
  pub sum_is : sum + sum_where 64 (has_bit left) f ≡ sum_where 64 (has_bit word) f

module _ (f : ℕ → ℕ) (word left sum cost : ℕ) (some : 0 < left) (small : left < 2 ^ 64) (counted : IsCounted f word left sum) where
  within-word : trailing_zeros w64 left < 64
  within-word = (bit_at-trailing_zeros w64 left some small).0

  lowest : IsLowest left (trailing_zeros w64 left)
  lowest = lowest-64 left some small

  not-counted : counted.place ≤ trailing_zeros w64 left
  not-counted = grind (arith, both_ways, lowest, cases_lt)

  without : (i : ℕ) → has_bit (bit_and left (left - 1)) i ≡ (not (nat_eq (trailing_zeros w64 left) i) && has_bit left i)
  without = has_bit-without_lowest left (trailing_zeros w64 left) lowest

  cleared : has_bit (bit_and left (left - 1)) (trailing_zeros w64 left) ≡ false
  cleared = grind (arith, without, eq-eqb)

  others : (i : ℕ) → i ≢ trailing_zeros w64 left → has_bit (bit_and left (left - 1)) i ≡ has_bit left i
  others i other = without i ∙ ap (λ b. not b && has_bit left i) (ne_eqb (trailing_zeros w64 left) i (λ same. other (sym same)))

  clear-next : (i : ℕ) → i < trailing_zeros w64 left + 1 → has_bit (bit_and left (left - 1)) i ≡ false
  clear-next i upto = grind (arith, without, lowest, and-false, bit_and, cleared, cases_lt)

  pub counted-next : cost ≤ 255 → cost ≡ f (trailing_zeros w64 left) → IsCounted f word (bit_and left (left - 1)) (sum + cost)
  counted-next cheap is =
      let t = trailing_zeros w64 left in
      let within = within-word in
      let upto = not-counted in
      let sums = sum_where-without 64 t (has_bit left) (has_bit (bit_and left (left - 1))) f within lowest.has cleared (λ s below other. others s other) in
      record {
        place = t + 1;
        within = omega arith;
        clear = clear-next;
        small = omega arith;
        sum_is = omega arith;
      }

pub counted-end : (f : ℕ → ℕ) (word left sum : ℕ) → left ≡ 0 → IsCounted f word left sum → sum ≡ sum_where 64 (has_bit word) f
counted-end f word left sum none counted = grind (arith, sum_where-none, has_bit-none)

-- Two words

sum_where-parts : (n m : ℕ) (p : ℕ → Bool) (f : ℕ → ℕ) → sum_where (n + m) p f ≡ sum_where n p f + sum_where m (λ s. p (n + s)) (λ s. f (n + s))
sum_where-parts n zero p f = grind (arith, sum_where-zero)
sum_where-parts n (suc m) p f =
    let next : n + suc m ≡ suc (n + m) = omega arith in
    let before = sum_where-parts n m p f in
    grind (arith, sum_where-next)

-- no member above a place adds nothing
sum_where-few : (n m : ℕ) (p : ℕ → Bool) (f : ℕ → ℕ) → ((s : ℕ) → n ≤ s → p s ≡ false) → sum_where (n + m) p f ≡ sum_where n p f
sum_where-few n zero p f none = let same : n + 0 ≡ n = omega arith in ap (λ k. sum_where k p f) same
sum_where-few n (suc m) p f none =
    let next : n + suc m ≡ suc (n + m) = omega arith in
    let before = sum_where-few n m p f none in
    grind (arith, sum_where-next)

pub sum_where-words : (bits : ℕ) (f : ℕ → ℕ) → bits < 2 ^ most_slots
    → sum_where most_slots (has_bit bits) f
    ≡ sum_where 64 (has_bit (bits % 2 ^ 64)) f + sum_where 64 (has_bit (bits / 2 ^ 64)) (λ s. f (64 + s))
sum_where-words bits f small =
    let low = bits % 2 ^ 64 in
    let high = bits / 2 ^ 64 in
    let parts : high * 2 ^ 64 + low ≡ bits = div-add-mod' bits (2 ^ 64) in
    let front : (s : ℕ) → s < 64 → has_bit bits s ≡ has_bit low s
    = λ s below. ap (λ n. has_bit n s) (sym parts) ∙ has_bit-low high low s below in
    let behind : (s : ℕ) → s < 64 → has_bit bits (64 + s) ≡ has_bit high s
    = grind (arith, has_bit-high) in
    let all = sum_where-few 96 32 (has_bit bits) f (λ s above. has_bit-above bits 96 s small above) in
    let two = sum_where-parts 64 64 (has_bit bits) f in
    let one = sum_where-same 64 (has_bit bits) (has_bit low) f front in
    let other = sum_where-same 64 (λ s. has_bit bits (64 + s)) (has_bit high) (λ s. f (64 + s)) behind in
    omega arith
