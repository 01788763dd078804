-- The longest frame of the streams up to an identifier.
use Rattle.std.proofs.Common.{◌≡◌, ℕ, ◌<◌, ◌≤◌, max, Bool, true, List, [], ◌∷◌, All, Any, Contains, fold, filter, map, get_or, ◌⊎◌, inl, inr, refl, subst, arith}
use Rattle.std.specs.Prelude.{nat_le}
use Rattle.std.proofs.lemmas.Bool.{cases_lt, le-leb, leb-true}
use Rattle.std.proofs.lemmas.List.Elements.{All-cons, All-contains, All-contains_itself, All-filter, All-nil, Contains-get_or, filter_passes}
use Rattle.stuff_bound.specs.Stuffing.{worst}
use Rattle.async_bound.specs.declared.stream.BurstStream.{BurstStream}
use Rattle.async_bound.specs.Bound.{IsLongestUpTo, lengths_up_to, longest_up_to}
use Rattle.async_bound.proofs.Lists.{Contains-any, Contains-cases, Contains-filter, Contains-here, Contains-later, Contains-map, Contains-nil}

-- the greatest of a number and those of a list

greatest-start : (from : ℕ) (ns : List ℕ) → from ≤ fold max from ns
greatest-start from [] = omega arith
greatest-start from (n ∷ ns) = let rest = greatest-start (max from n) ns in omega (arith, rest)

greatest-most : (from : ℕ) (ns : List ℕ) → All (λ n. n ≤ fold max from ns) ns
greatest-most from [] = All-nil (λ n. n ≤ from)
greatest-most from (n ∷ ns) =
    let start = greatest-start (max from n) ns in
    All-cons (λ m. m ≤ fold max (max from n) ns) n ns (omega (arith, start)) (greatest-most (max from n) ns)

greatest-reached : (from : ℕ) (ns : List ℕ) → (fold max from ns ≡ from) ⊎ Contains ns (fold max from ns)
greatest-reached from [] = inl refl
greatest-reached from (n ∷ ns) = elim (greatest-reached (max from n) ns) [
  | inr later ↦ inr (Contains-later n ns (fold max (max from n) ns) later)
  | inl first ↦ elim (cases_lt from n) [
    | inl less ↦ inr (subst (λ m. Contains (n ∷ ns) m) (omega (arith, first, less)) (Contains-here n ns))
    | inr most ↦ inl (omega (arith, first, most))
  ]
]

-- an element that is mapped
map-of : {X : Type 0} (f : X → ℕ) (xs : List X) (n : ℕ) → Contains (map f xs) n → (x : X) × Contains xs x × (f x ≡ n)
map-of f [] n has = absurd (Contains-nil n has)
map-of f (x ∷ xs) n has = elim (Contains-cases (f x) (map f xs) n has) [
  | inl same ↦ (x, Contains-here x xs, same)
  | inr later ↦ let it = map-of f xs n later in (it.0, Contains-later x xs it.0 it.1, it.2)
]

abbrev up_to : ℕ → BurstStream → Bool
up_to id stream = nat_le stream.id id

abbrev length_of : BurstStream → ℕ
length_of stream = worst stream.bytes

module _ (streams : List BurstStream) (id : ℕ) where
  pub longest-most : All (λ stream. stream.id ≤ id → worst stream.bytes ≤ longest_up_to streams id) streams
  longest-most k d within below =
      let s = get_or streams k d in
      let kept = Contains-filter (up_to id) streams s (Contains-get_or streams k d within) (le-leb s.id id below) in
      All-contains (λ n. n ≤ longest_up_to streams id) (lengths_up_to streams id) (worst s.bytes) (greatest-most 0 (lengths_up_to streams id))
      (Contains-map length_of (filter (up_to id) streams) s kept)

  reached : 0 < longest_up_to streams id → Any (λ stream. (stream.id ≤ id) × (worst stream.bytes ≡ longest_up_to streams id)) streams
  reached some = elim (greatest-reached 0 (lengths_up_to streams id)) [
    | inl none ↦ absurd (omega (arith, none, some))
    | inr has ↦
        let it = map-of length_of (filter (up_to id) streams) (longest_up_to streams id) has in
        let among = All-contains (Contains streams) (filter (up_to id) streams) it.0 (All-filter (up_to id) (Contains streams) streams (All-contains_itself streams)) it.1 in
        let passes = All-contains (λ s. up_to id s ≡ true) (filter (up_to id) streams) it.0 (filter_passes (up_to id) streams) it.1 in
        (among.0, it.0, among.1, among.2, (leb-true it.0.id id passes, it.2))
  ]

  pub longest-is : IsLongestUpTo streams id (longest_up_to streams id)
  longest-is = record { most = longest-most; reached = reached }

  -- one such number is at most another one
  at-most : (one other : ℕ) → IsLongestUpTo streams id one → IsLongestUpTo streams id other → one ≤ other
  at-most one other is also = elim (cases_lt 0 one) [
    | inr none ↦ omega (arith, none)
    | inl some ↦
        let it = Contains-any (λ stream. (stream.id ≤ id) × (worst stream.bytes ≡ one)) streams (is.reached some) in
        let most = All-contains (λ stream. stream.id ≤ id → worst stream.bytes ≤ other) streams it.0 also.most it.1 it.2.0 in
        omega (arith, most, it.2.1)
  ]

  pub longest-only : (longest : ℕ) → IsLongestUpTo streams id longest → longest ≡ longest_up_to streams id
  longest-only longest is =
      let up = at-most longest (longest_up_to streams id) is longest-is in
      let down = at-most (longest_up_to streams id) longest longest-is is in
      omega (arith, up, down)
