-- From the bits of a comparison of 16 lanes to the bytes that pass a test.
use Rattle.std.proofs.Common.{◌≡◌, ℕ, ◌+◌, ◌%◌, ◌^◌, ◌<◌, ◌≤◌, Bool, true, false, cond, not, ◌||◌, List, map, length, get_or, take, drop, Fits, w8, refl, sym, ap, ◌∙◌, subst, arith, inl, inr}
use Rattle.std.proofs.lemmas.Bool.{agree_below, agree_below_at, and_from, not-true, cases_eq, eq-eqb, ne_eqb, cond-true, cond-false}
use Rattle.std.proofs.lemmas.Simd.{map-map, mask_l-mod, length-chunk, get_or-chunk, leading_from_mask_l, trailing_mask_l}
use Rattle.std.proofs.lemmas.List.{drop-take, get_or-take, length-map, length-take, take-append-drop, take-take}
use Rattle.std.proofs.lemmas.List.Elements.{All-from_get_or}
use Rattle.std.proofs.lemmas.List.Folds.{list_all-append}
use Rattle.std.proofs.lemmas.List.Sums.{list_all-from_AllPass, prefix_len-le-length, prefix_len_passes}
use Rattle.std.specs.List.{list_all, prefix_len}
use lib.Lanes.{chunk, mask_l, top}
use Rattle.text_fields.specs.Lanes.{first_set}

-- the lowest bit that is set is how many lanes come before the first that passes
before-first : (p : ℕ → Bool) (lanes : List ℕ) → length lanes ≡ 16 → first_set (mask_l (map p lanes)) ≡ prefix_len (λ x. not (p x)) lanes
before-first p lanes long = elim (cases_eq (mask_l (map p lanes)) 0) [
  | inl none ↦ cond-true _ _ _ (eq-eqb _ _ none) ∙ sym (leading_from_mask_l p lanes none ∙ long)
  | inr some ↦ cond-false _ _ _ (ne_eqb _ _ some) ∙ trailing_mask_l p 64 lanes (omega (arith, long)) (omega (arith, some))
]

-- the lanes were worked out of the first 16 bytes, one by one, and the run ends at the first whose top bit is set: where
-- each byte without that bit passes the test, all bytes of the run do
module _ (test : ℕ → Bool) (bytes : List ℕ) (run : ℕ) (lanes : List ℕ) (f : ℕ → ℕ) (enough : 16 ≤ length bytes)
    (fits : (i : ℕ) → Fits w8 (get_or bytes i 0)) (found : run ≡ first_set (mask_l (map (top 7) lanes) % 2 ^ 64))
    (each : lanes ≡ map f (chunk 0 16 bytes)) where
  abbrev ends : ℕ → Bool
  ends x = top 7 (f x)

  long : length (chunk 0 16 bytes) ≡ 16
  long = length-chunk 0 16 bytes enough

  counted : run ≡ prefix_len (λ x. not (ends x)) (chunk 0 16 bytes)
  counted =
      let own = chunk 0 16 bytes in
      let bits = ap (λ l. mask_l l % 2 ^ 64) (ap (map (top 7)) each ∙ map-map (top 7) f own)
      ∙ mask_l-mod (map ends own) 64 (omega (arith, length-map own ends, long)) in
      found ∙ ap first_set bits ∙ before-first ends own long

  pub run-few : run ≤ 16
  run-few = omega (arith, counted, long, prefix_len-le-length (λ x. not (ends x)) (chunk 0 16 bytes))

  pub run-passes : agree_below (λ x. ends x || test x) (λ _. true) 256 ≡ true → (i : ℕ) → i < run → test (get_or bytes i 0) ≡ true
  run-passes all i before =
      let bound = prefix_len-le-length (λ x. not (ends x)) (chunk 0 16 bytes) in
      let same : 0 + i ≡ i = omega arith in
      let at = get_or-chunk 0 16 bytes i 0 (omega (arith, counted, long, bound, before)) ∙ ap (λ j. get_or bytes j 0) same in
      let goes_on : ends (get_or bytes i 0) ≡ false = subst (λ x. ends x ≡ false) at
      (not-true _ (prefix_len_passes (λ x. not (ends x)) (chunk 0 16 bytes) i 0 (omega (arith, counted, before)))) in
      sym (ap (λ b. b || test (get_or bytes i 0)) goes_on)
      ∙ agree_below_at (λ x. ends x || test x) (λ _. true) 256 (get_or bytes i 0) all (fits i).fits

-- the run ends at the first lane whose top bit is set: before it none is
pub none-set : (run : ℕ) (lanes : List ℕ) → length lanes ≡ 16 → run ≡ first_set (mask_l (map (top 7) lanes) % 2 ^ 64)
    → (run ≤ 16) × ((i : ℕ) → i < run → top 7 (get_or lanes i 0) ≡ false)
none-set run lanes long found =
    let goes_on : ℕ → Bool = λ x. not (top 7 x) in
    let counted : run ≡ prefix_len goes_on lanes =
    found ∙ ap first_set (mask_l-mod (map (top 7) lanes) 64 (omega (arith, length-map lanes (top 7), long))) ∙ before-first (top 7) lanes long in
    let bound = prefix_len-le-length goes_on lanes in
    (omega (arith, counted, bound, long), λ i before. not-true _ (prefix_len_passes goes_on lanes i 0 (omega (arith, counted, before))))

-- bytes that pass a test one by one pass it together
pub all-run : (bytes : List ℕ) (run : ℕ) → run ≤ length bytes → (test : ℕ → Bool) → ((i : ℕ) → i < run → test (get_or bytes i 0) ≡ true)
    → list_all test (take run bytes) ≡ true
all-run bytes run within test each =
    let size = length-take run bytes in
    list_all-from_AllPass test (take run bytes) (All-from_get_or (λ x. test x ≡ true) (take run bytes) 0
    (λ i inside.
    let before : i < run = omega (arith, inside, size, within) in
    ap test (get_or-take run bytes i 0 before) ∙ each i before))

-- and so do two runs, one behind the other
pub all-both : (bytes : List ℕ) (run more : ℕ) (test : ℕ → Bool) → list_all test (take run bytes) ≡ true
    → list_all test (take more (drop run bytes)) ≡ true → list_all test (take (run + more) bytes) ≡ true
all-both bytes run more test first second =
    let whole = take (run + more) bytes in
    let front = ap (list_all test) (take-take run (run + more) bytes (omega arith)) ∙ first in
    let back = ap (list_all test) (drop-take run more bytes) ∙ second in
    ap (list_all test) (sym (take-append-drop run whole)) ∙ list_all-append test (take run whole) (drop run whole) ∙ and_from _ _ front back
