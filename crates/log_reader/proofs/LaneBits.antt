-- From the bits of a comparison of 16 lanes to bytes at their places, and two texts that are compared.
use Rattle.std.proofs.Common.{◌≡◌, ℕ, ◌+◌, ◌-◌, ◌/◌, ◌%◌, ◌^◌, ◌<◌, ◌≤◌, ◌==◌, Bool, true, false, cond, not, ◌&&◌, ◌||◌, ltb, leb, bit_and, List, map, length, get_or, Fits, w8, refl, sym, ap, ◌∙◌, subst, arith, inl, inr}
use Rattle.std.proofs.lemmas.Bool.{agree_below, agree_below_at, and_parts, cases_lt, eqb-true, le-leb, le-ltb, lt-ltb, or_left, or_right, true≢false}
use Rattle.std.proofs.lemmas.Simd.{mask_l-mod, length-chunk, get_or-chunk, bit_mask_l, get_or-zip2, length-zip2, tops_compared}
use lib.Lanes.{chunk, mask_l, top, zip2}
use Rattle.log_reader.specs.RowBytes.{is_among}

-- a lane whose top bit two comparisons leave unset passes one of them
pub one-passes : (x count y letters : ℕ) → top 7 (bit_and (cond (leb count x) 255 0) (cond (leb letters y) 255 0)) ≡ false
    → (ltb x count || ltb y letters) ≡ true
one-passes x count y letters is = elim (cases_lt x count) [
  | inl below ↦ or_left _ _ (lt-ltb x count below)
  | inr above ↦ elim (cases_lt y letters) [
    | inl few ↦ or_right _ _ (lt-ltb y letters few)
    | inr many ↦
        let both : top 7 (bit_and 255 255) ≡ false = subst (λ b. top 7 (bit_and 255 (cond b 255 0)) ≡ false) (le-leb letters y many)
        (subst (λ b. top 7 (bit_and (cond b 255 0) (cond (leb letters y) 255 0)) ≡ false) (le-leb count x above) is) in
        absurd (true≢false both)
  ]
]

-- bytes that are among those of their places pass a test, where these pass it and are the same from one place up to another
module _ (first count letters bytes : List ℕ) (run : ℕ) (fits : (i : ℕ) → Fits w8 (get_or bytes i 0))
    (each : (i : ℕ) → i < run → is_among (get_or first i 0) (get_or count i 0) (get_or letters i 0) (get_or bytes i 0) ≡ true) where
  pub by-places : (from to one two three : ℕ) (test : ℕ → Bool)
      → agree_below (λ k. ltb k from || ((get_or first k 0 == one) && ((get_or count k 0 == two) && (get_or letters k 0 == three)))) (λ _. true) to ≡ true
      → agree_below (λ x. not (is_among one two three x) || test x) (λ _. true) 256 ≡ true
      → (i : ℕ) → from ≤ i → i < to → i < run → test (get_or bytes i 0) ≡ true
  by-places from to one two three test places pass i after before within =
      let byte = get_or bytes i 0 in
      let here = agree_below_at (λ k. ltb k from || ((get_or first k 0 == one) && ((get_or count k 0 == two) && (get_or letters k 0 == three)))) (λ _. true) to i places before in
      let same = sym (ap (λ b. b || ((get_or first i 0 == one) && ((get_or count i 0 == two) && (get_or letters i 0 == three)))) (le-ltb i from after)) ∙ here in
      let (a, later) = and_parts _ _ same in
      let (b, c) = and_parts _ _ later in
      let among : is_among one two three byte ≡ true =
      subst (λ n. is_among one two n byte ≡ true) (eqb-true _ _ c)
      (subst (λ n. is_among one n (get_or letters i 0) byte ≡ true) (eqb-true _ _ b)
      (subst (λ n. is_among n (get_or count i 0) (get_or letters i 0) byte ≡ true) (eqb-true _ _ a) (each i within))) in
      sym (ap (λ t. not t || test byte) among)
      ∙ agree_below_at (λ x. not (is_among one two three x) || test x) (λ _. true) 256 byte pass (fits i).fits

-- Two texts

is-set : (b : Bool) → cond {A = ℕ} b 1 0 ≡ 1 → b ≡ true
is-set true is = refl
is-set false is = absurd (omega (arith, is))

-- where the bits of all lanes are set, so is each
each-set : (bits : List Bool) → length bits ≡ 16 → mask_l bits % 2 ^ 64 ≡ 65535 → (i : ℕ) → i < 16 → get_or bits i false ≡ true
each-set bits long is i few =
    let whole : mask_l bits ≡ 65535 = sym (mask_l-mod bits 64 (omega (arith, long))) ∙ is in
    let one : 65535 / 2 ^ i % 2 ≡ 1 = eqb-true _ _ (agree_below_at (λ k. 65535 / 2 ^ k % 2 == 1) (λ _. true) 16 i refl few) in
    is-set (get_or bits i false) (sym (bit_mask_l bits i) ∙ ap (λ m. m / 2 ^ i % 2) whole ∙ one)

-- bytes are the same where each comparison of 16 is true
pub same-lanes : (one other : List ℕ) (place : ℕ) → place + 16 ≤ length one → place + 16 ≤ length other
    → mask_l (map (top 7) (zip2 (λ a b. cond (a == b) 255 0) (chunk place 16 one) (chunk place 16 other))) % 2 ^ 64 ≡ 65535
    → (i : ℕ) → place ≤ i → i < place + 16 → get_or one i 0 ≡ get_or other i 0
same-lanes one other place first second is i from to =
    let xs = chunk place 16 one in
    let ys = chunk place 16 other in
    let size = length-chunk place 16 one first in
    let other_size = length-chunk place 16 other second in
    let k = i - place in
    let few : k < 16 = omega (arith, from, to) in
    let back : place + k ≡ i = omega (arith, from) in
    let compared = ap (λ bits. mask_l bits % 2 ^ 64) (sym (tops_compared w8 (λ a b. a == b) xs ys)) ∙ is in
    let set = each-set (zip2 (λ a b. a == b) xs ys) (length-zip2 (λ a b. a == b) xs ys (size ∙ sym other_size) ∙ size) compared k few in
    let same = eqb-true _ _ (sym (get_or-zip2 (λ a b. a == b) xs ys k 0 0 false (omega (arith, size, few)) (omega (arith, other_size, few))) ∙ set) in
    ap (λ j. get_or one j 0) (sym back) ∙ sym (get_or-chunk place 16 one k 0 few) ∙ same
    ∙ get_or-chunk place 16 other k 0 few ∙ ap (λ j. get_or other j 0) back
