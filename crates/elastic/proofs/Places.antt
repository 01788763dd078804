-- The choices that a combination takes, by their places.
use Rattle.std.proofs.Common.{◌≡◌, inl, inr, ℕ, suc, ◌+◌, ◌*◌, ◌/◌, ◌%◌, ◌<◌, ◌≤◌, List, [], ◌∷◌, All, refl, sym, ap, ◌∙◌, arith}
use Rattle.std.proofs.Math.Nat.{div-add-mod', mod-eq_of_lt, mod-lt, mul-add-div_right, mul-add-mod_self_right, mul-le-mul_right, mul_assoc, suc-mul}
use Rattle.std.proofs.lemmas.Nat.{div-mul-add}
use Rattle.std.proofs.lemmas.Bool.{cases_order}
use Rattle.std.proofs.lemmas.List.Elements.{All-head, All-tail}
use Rattle.elastic.specs.Combination.{AreChoices, HasChoice, IsLexicallyBefore, choices, combinations, operations_at, operations_in, places_in}
use Rattle.elastic.specs.declared.wish.WishOp.{WishOp}
use Rattle.elastic.specs.declared.wish.WishOp.TheVariants.{Add, Remove}
use Rattle.elastic.proofs.Products.{some_other}

same_cons : (x y : ℕ) (xs ys : List ℕ) → x ≡ y → xs ≡ ys → x ∷ xs ≡ y ∷ ys
same_cons x y xs ys one rest = rw (one, rest) refl

-- a number of two digits is below the product of their bases
two_digits : (high low bound base : ℕ) → high < bound → low < base → high * base + low < bound * base
two_digits high low bound base under within =
    let next : suc high * base ≤ bound * base = mul-le-mul_right base under in
    let more : suc high * base ≡ high * base + base = suc-mul high base in
    omega (arith, next, more, within)

-- a multiple of all combinations changes no place
shifted : (ops : List WishOp) (turns number : ℕ) → 1 ≤ combinations ops → places_in (turns * combinations ops + number) ops ≡ places_in number ops
shifted [] turns number some = refl
shifted (op ∷ ops) turns number some =
    let count = choices op in
    let behind = combinations ops in
    let some_behind : 1 ≤ behind = some_other count behind some in
    let same : turns * (count * behind) + number ≡ turns * count * behind + number = ap (λ n. n + number) (sym (mul_assoc turns count behind)) in
    let first : (turns * (count * behind) + number) / behind % count ≡ number / behind % count
    = ap (λ n. n / behind % count) same ∙ ap (λ n. n % count) (mul-add-div_right some_behind (turns * count) number) ∙ mul-add-mod_self_right turns count (number / behind) in
    let others : places_in (turns * (count * behind) + number) ops ≡ places_in number ops
    = ap (λ n. places_in n ops) same ∙ shifted ops (turns * count) number some_behind in
    same_cons _ _ _ _ first others

-- the number of places
number_of : List WishOp → List ℕ → ℕ
number_of [] places = 0
number_of (op ∷ ops) [] = 0
number_of (op ∷ ops) (place ∷ places) = place * combinations ops + number_of ops places

below : (ops : List WishOp) (places : List ℕ) → AreChoices ops places → number_of ops places < combinations ops
unfolding number_of
below [] [] are = omega arith
below [] (place ∷ places) are = absurd are
below (op ∷ ops) [] are = absurd are
below (op ∷ ops) (place ∷ places) are = two_digits place (number_of ops places) (choices op) (combinations ops) are.0 (below ops places are.1)

places_of : (ops : List WishOp) (places : List ℕ) → AreChoices ops places → places_in (number_of ops places) ops ≡ places
unfolding number_of
places_of [] [] are = refl
places_of [] (place ∷ places) are = absurd are
places_of (op ∷ ops) [] are = absurd are
places_of (op ∷ ops) (place ∷ places) are =
    let rest = number_of ops places in
    let under : rest < combinations ops = below ops places are.1 in
    let some : 1 ≤ combinations ops = omega (arith, under) in
    same_cons _ _ _ _ (ap (λ n. n % choices op) (div-mul-add place (combinations ops) rest under) ∙ mod-eq_of_lt are.0)
    (shifted ops place rest some ∙ places_of ops places are.1)

-- each way to choose is that of a number
pub each_choice : (ops : List WishOp) (places : List ℕ) → AreChoices ops places → (number : ℕ) × (number < combinations ops) × (places_in number ops ≡ places)
each_choice ops places are = (number_of ops places, below ops places are, places_of ops places are)

-- a number takes a choice of each operation
pub are_choices : (ops : List WishOp) (number : ℕ) → All HasChoice ops → AreChoices ops (places_in number ops)
are_choices [] number all = tt
are_choices (op ∷ ops) number all =
    (mod-lt (number / combinations ops) (All-head HasChoice op ops all), are_choices ops number (All-tail HasChoice op ops all))

-- and becomes the operations with these choices
pub by_places : (ops : List WishOp) (number : ℕ) → operations_in number ops ≡ operations_at ops (places_in number ops)
by_places [] number = refl
by_places (Add entry periods ∷ ops) number = rw (by_places ops number) refl
by_places (Remove slot ∷ ops) number = rw (by_places ops number) refl

-- the first digit of a number below a product
first_digit : (number bound base : ℕ) → number < bound * base → number / base < bound
first_digit number bound base under =
    elim (cases_order (number / base) bound) [
      | inl same ↦ absurd (omega (arith, under, div-add-mod' number base, ap (λ n. n * base) same))
      | inr rest ↦
          elim rest [
            | inl less ↦ less
            | inr more ↦ absurd (omega (arith, under, div-add-mod' number base, mul-le-mul_right base more, suc-mul bound base))
          ]
    ]

-- greater numbers take later choices
pub in_order : (ops : List WishOp) (number other : ℕ) → number < other → other < combinations ops → IsLexicallyBefore (places_in number ops) (places_in other ops)
in_order [] number other less under = absurd (omega (arith, less, under))
in_order (op ∷ ops) number other less under =
    let count = choices op in
    let base = combinations ops in
    let some : 1 ≤ base = some_other count base (omega (arith, less, under)) in
    let split : number / base * base + number % base ≡ number = div-add-mod' number base in
    let split_other : other / base * base + other % base ≡ other = div-add-mod' other base in
    let first : number / base % count ≡ number / base = mod-eq_of_lt (first_digit number count base (omega (arith, less, under))) in
    let first_other : other / base % count ≡ other / base = mod-eq_of_lt (first_digit other count base under) in
    elim (cases_order (number / base) (other / base)) [
      | inl same ↦
          let rest : number % base < other % base = omega (arith, less, split, split_other, ap (λ n. n * base) same) in
          let behind = in_order ops (number % base) (other % base) rest (mod-lt other some) in
          let places : places_in number ops ≡ places_in (number % base) ops = ap (λ n. places_in n ops) (sym split) ∙ shifted ops (number / base) (number % base) some in
          let places_other : places_in other ops ≡ places_in (other % base) ops = ap (λ n. places_in n ops) (sym split_other) ∙ shifted ops (other / base) (other % base) some in
          inr (ap (λ n. n % count) same, rw (places, places_other) behind)
      | inr uneven ↦
          elim uneven [
            | inl before ↦ inl (rw (first, first_other) before)
            | inr after ↦ absurd (omega (arith, less, split, split_other, two_digits (other / base) (other % base) (number / base) base after (mod-lt other some)))
          ]
    ]
