-- Identifiers in their order.
use Rattle.std.proofs.Common.{◌≡◌, ◌≢◌, ℕ, ◌<◌, ◌≤◌, eqb, List, get_or, AllPairs, inl, inr, arith}
use Rattle.std.specs.List.Sorted.{IsPermutation, IsSortedByKey}
use Rattle.std.specs.Ordering.{nat_cmp}
use Rattle.std.proofs.lemmas.Bool.{eq-eqb, ne_eqb, cases_lt}
use Rattle.std.proofs.lemmas.Bool.Decides.{Decides-eqb, eqb_tells}
use Rattle.std.proofs.lemmas.List.Sorted.{IsNonDecreasingBy-from_sort}
use Rattle.std.proofs.lemmas.Map.Keys.{IsDistinct-IsPermutation}
use Rattle.std.proofs.lemmas.Map.Made.{AllPairs-from_IsDistinct, IsDistinct-from_AllPairs}

eqb-flips : (x y : ℕ) → eqb x y ≡ eqb y x
eqb-flips x y = grind (arith, eqb_tells, eq-eqb, ne_eqb)

pub distinct-permutation : (xs ys : List ℕ) → IsPermutation xs ys → AllPairs (λ one other. one ≢ other) xs → AllPairs (λ one other. one ≢ other) ys
distinct-permutation xs ys moved distinct =
    AllPairs-from_IsDistinct Decides-eqb ys (IsDistinct-IsPermutation eqb eqb-flips xs ys moved (IsDistinct-from_AllPairs Decides-eqb xs distinct))

-- distinct numbers that never fall rise
pub rising-sorted : (xs ys : List ℕ) → AllPairs (λ one other. one ≢ other) xs → IsPermutation xs ys → IsSortedByKey (λ x. x) nat_cmp ys
    → AllPairs (λ one other. one < other) ys
rising-sorted xs ys distinct moved sorted i j d before within =
    let low : get_or ys i d ≤ get_or ys j d = IsNonDecreasingBy-from_sort (λ x. x) ys sorted i j d (omega arith) within in
    elim (cases_lt (get_or ys i d) (get_or ys j d)) [
      | inl less ↦ less
      | inr more ↦
          let same : get_or ys i d ≡ get_or ys j d = omega arith in
          absurd (distinct-permutation xs ys moved distinct i j d before within same)
    ]
