-- The table whose first marks stand in a row by their places.
use Rattle.std.proofs.Common.{◌≡◌, ◌≢◌, ℕ, zero, suc, ◌+◌, ◌<◌, ◌≤◌, if◌then◌else◌, List, [], ◌∷◌, ◌++◌, length, get_or, slice_index_or, Some, None, refl, sym, ◌∙◌, ap, arith, subst, inl, inr}
use Rattle.std.specs.Prelude.{Option}
use Rattle.std.proofs.lemmas.Bool.{cases_eq, eq-eqb, ne_eqb}
use Rattle.std.proofs.lemmas.List.{get_or_past, length-append}
use Rattle.recurrence_check.specs.Keys.{IsSparse, Meets, at_place, table}
use Rattle.recurrence_check.proofs.Noted.{key_cases}

-- a row in which the same stands
pub table-same : (old new : List (Option (ℕ × ℕ))) (others : ℕ × ℕ → Option ℕ)
    → ((q : ℕ) → slice_index_or new q None ≡ slice_index_or old q None) → (key : ℕ × ℕ) → table new others key ≡ table old others key
table-same old new others same key = ap (λ (first : Option (ℕ × ℕ)). at_place first key.0 (others key)) (same key.1)

pub sparse-same : (old new : List (Option (ℕ × ℕ))) (others : ℕ × ℕ → Option ℕ)
    → ((q : ℕ) → slice_index_or new q None ≡ slice_index_or old q None) → length new ≤ 100000 → IsSparse old others → IsSparse new others
sparse-same old new others same short sparse = record {
  short = short;
  first = λ key within none. sparse.first key within (sym (same key.1) ∙ none);
}

pub meets-same : (old mid new : ℕ × ℕ → Option ℕ) (key : ℕ × ℕ) (steps : ℕ) (before : Option ℕ) → ((q : ℕ × ℕ) → mid q ≡ old q)
    → Meets mid new (Some key) steps before → Meets old new (Some key) steps before
meets-same old mid new key steps before same met =
    (met.0 ∙ same key, λ none. let added = met.1 none in (added.0, λ other apart. added.1 other apart ∙ same other))

-- a key that does not stand in the row is looked up elsewhere
pub meets-elsewhere : (row : List (Option (ℕ × ℕ))) (old new : ℕ × ℕ → Option ℕ) (key : ℕ × ℕ) (steps : ℕ) (before : Option ℕ)
    → ((rest : Option ℕ) → at_place (slice_index_or row key.1 None) key.0 rest ≡ rest) → Meets old new (Some key) steps before
    → Meets (table row old) (table row new) (Some key) steps before
meets-elsewhere row old new key steps before passes met = (
  met.0 ∙ sym (passes (old key)),
  λ none.
      let added = met.1 none in
      (passes (new key) ∙ added.0, λ other apart. ap (λ (rest : Option ℕ). at_place (slice_index_or row other.1 None) other.0 rest) (added.1 other apart)),
)

pub sparse-elsewhere : (row : List (Option (ℕ × ℕ))) (old new : ℕ × ℕ → Option ℕ) (key : ℕ × ℕ) (steps : ℕ) (before : Option ℕ)
    → (key.1 < 100000 → slice_index_or row key.1 None ≡ None → ⊥) → IsSparse row old → Meets old new (Some key) steps before
    → before ≡ None → IsSparse row new
sparse-elsewhere row old new key steps before stands sparse met none = record {
  short = sparse.short;
  first = λ other within nothing. elim (key_cases key other) [
    | inl same ↦
        let here : key.1 < 100000 = subst (λ (q : ℕ × ℕ). q.1 < 100000) (sym same) within in
        let gone : slice_index_or row key.1 None ≡ None = subst (λ (q : ℕ × ℕ). slice_index_or row q.1 None ≡ None) (sym same) nothing in
        absurd (stands here gone)
    | inr apart ↦ (met.1 none).1 other apart ∙ sparse.first other within nothing
  ];
}

-- no first mark stands behind the end of the row
pub passes-far : (row : List (Option (ℕ × ℕ))) (key : ℕ × ℕ) → length row ≤ key.1
    → (rest : Option ℕ) → at_place (slice_index_or row key.1 None) key.0 rest ≡ rest
passes-far row key far rest = ap (λ (first : Option (ℕ × ℕ)). at_place first key.0 rest) (behind row key.1 far)
  where
    behind : (xs : List (Option (ℕ × ℕ))) (i : ℕ) → length xs ≤ i → get_or xs i None ≡ None
    behind [] i far = refl
    behind (x ∷ xs) zero far = absurd (omega arith)
    behind (x ∷ xs) (suc i) far = behind xs i (omega arith)

-- another mark stands first
pub passes-other : (row : List (Option (ℕ × ℕ))) (key : ℕ × ℕ) (first : ℕ × ℕ) → slice_index_or row key.1 None ≡ Some first → first.0 ≢ key.0
    → (rest : Option ℕ) → at_place (slice_index_or row key.1 None) key.0 rest ≡ rest
passes-other row key first stands other rest =
    ap (λ (one : Option (ℕ × ℕ)). at_place one key.0 rest) stands ∙ ap (λ b. if b then Some first.1 else rest) (ne_eqb first.0 key.0 other)

pub stands-first : (row : List (Option (ℕ × ℕ))) (key first : ℕ × ℕ) → slice_index_or row key.1 None ≡ Some first
    → slice_index_or row key.1 None ≡ None → ⊥
stands-first row key first stands none = let there = stands in absurd (cc)

-- the mark stands first
pub meets-first : (row : List (Option (ℕ × ℕ))) (others new : ℕ × ℕ → Option ℕ) (key first : ℕ × ℕ) (steps : ℕ)
    → slice_index_or row key.1 None ≡ Some first → first.0 ≡ key.0 → Meets (table row others) new (Some key) steps (Some first.1)
meets-first row others new key first steps stands same = (
  sym (ap (λ (one : Option (ℕ × ℕ)). at_place one key.0 (others key)) stands ∙ ap (λ b. if b then Some first.1 else others key) (eq-eqb first.0 key.0 same)),
  λ none. absurd (cc),
)

-- the first mark at its place is put down, and nothing else changes in the row
module _ (row new : List (Option (ℕ × ℕ))) (others : ℕ × ℕ → Option ℕ) (mark place steps : ℕ) (sparse : IsSparse row others)
    (none : slice_index_or row place None ≡ None) (near : place < 100000) (at-same : slice_index_or new place None ≡ Some (mark, steps))
    (at-other : (q : ℕ) → q ≢ place → slice_index_or new q None ≡ slice_index_or row q None) where
  before-none : None ≡ table row others (mark, place)
  before-none = sym (ap (λ (one : Option (ℕ × ℕ)). at_place one mark (others (mark, place))) none ∙ sparse.first (mark, place) near none)

  now-there : table new others (mark, place) ≡ Some steps
  now-there =
      ap (λ (one : Option (ℕ × ℕ)). at_place one mark (others (mark, place))) at-same
      ∙ ap (λ b. if b then Some steps else others (mark, place)) (eq-eqb mark mark refl)

  pair-of : (other : ℕ × ℕ) → other.0 ≡ mark → other.1 ≡ place → (mark, place) ≡ other
  pair-of other first second =
      let left : ℕ → ℕ × ℕ = λ n. (n, place) in
      let right : ℕ → ℕ × ℕ = λ n. (other.0, n) in
      ap left (sym first) ∙ ap right (sym second)

  others-stay : (other : ℕ × ℕ) → (mark, place) ≢ other → table new others other ≡ table row others other
  others-stay other apart = elim (cases_eq other.1 place) [
    | inl same ↦
        let differs : mark ≢ other.0 = λ equal. apart (pair-of other (sym equal) same) in
        let here : slice_index_or new other.1 None ≡ Some (mark, steps) = ap (λ q. slice_index_or new q None) same ∙ at-same in
        let was : slice_index_or row other.1 None ≡ None = ap (λ q. slice_index_or row q None) same ∙ none in
        ap (λ (one : Option (ℕ × ℕ)). at_place one other.0 (others other)) here
        ∙ ap (λ b. if b then Some steps else others other) (ne_eqb mark other.0 differs)
        ∙ sym (ap (λ (one : Option (ℕ × ℕ)). at_place one other.0 (others other)) was)
    | inr elsewhere ↦ ap (λ (one : Option (ℕ × ℕ)). at_place one other.0 (others other)) (at-other other.1 elsewhere)
  ]

  pub meets-new : Meets (table row others) (table new others) (Some (mark, place)) steps None
  meets-new = (before-none, λ _. (now-there, others-stay))

  pub sparse-new : length new ≤ 100000 → IsSparse new others
  sparse-new short = record {
    short = short;
    first = λ key under nothing. elim (cases_eq key.1 place) [
      | inl same ↦
          let here : slice_index_or new key.1 None ≡ Some (mark, steps) = ap (λ q. slice_index_or new q None) same ∙ at-same in
          absurd (stands-first new key (mark, steps) here nothing)
      | inr elsewhere ↦ sparse.first key under (sym (at-other key.1 elsewhere) ∙ nothing)
    ];
  }

-- what stands in a list with one more item
pub get_or-last : {A : Type 0} (xs : List A) (x d : A) (n : ℕ) → length xs ≡ n → get_or (xs ++ x ∷ []) n d ≡ x
get_or-last [] x d zero is = refl
get_or-last [] x d (suc n) is = absurd (omega arith)
get_or-last (y ∷ ys) x d zero is = absurd (omega arith)
get_or-last (y ∷ ys) x d (suc n) is = get_or-last ys x d n (omega arith)

pub get_or-front : {A : Type 0} (xs : List A) (x d : A) (n : ℕ) → n ≢ length xs → get_or (xs ++ x ∷ []) n d ≡ get_or xs n d
get_or-front [] x d zero apart = absurd (apart refl)
get_or-front [] x d (suc n) apart = refl
get_or-front (y ∷ ys) x d zero apart = refl
get_or-front (y ∷ ys) x d (suc n) apart = get_or-front ys x d n (λ same. apart (omega arith))

pub long-pushed : (row new : List (Option (ℕ × ℕ))) (last : Option (ℕ × ℕ)) (n : ℕ) → length row ≡ n → new ≡ row ++ last ∷ []
    → length new ≡ n + 1
long-pushed row new last n long pushed = subst (λ xs. length xs ≡ n + 1) (sym pushed) (simp length-append (omega (arith, long)))

-- the mark is put down behind the end of the row
module _ (row new : List (Option (ℕ × ℕ))) (others : ℕ × ℕ → Option ℕ) (mark place steps : ℕ) (sparse : IsSparse row others)
    (long : length row ≡ place) (near : place < 100000) (pushed : new ≡ row ++ Some (mark, steps) ∷ []) where
  at_end : slice_index_or new place None ≡ Some (mark, steps)
  at_end = subst (λ xs. slice_index_or xs place None ≡ Some (mark, steps)) (sym pushed) (get_or-last row (Some (mark, steps)) None place long)

  before_end : (q : ℕ) → q ≢ place → slice_index_or new q None ≡ slice_index_or row q None
  before_end q apart =
      subst (λ xs. slice_index_or xs q None ≡ slice_index_or row q None) (sym pushed)
      (get_or-front row (Some (mark, steps)) None q (λ same. apart (same ∙ long)))

  nothing-there : slice_index_or row place None ≡ None
  nothing-there = get_or_past row place None (omega (arith, long))

  pub meets-pushed : Meets (table row others) (table new others) (Some (mark, place)) steps None
  meets-pushed = meets-new row new others mark place steps sparse nothing-there near at_end before_end

  pub sparse-pushed : IsSparse new others
  sparse-pushed = sparse-new row new others mark place steps sparse nothing-there near at_end before_end
      (omega (arith, long-pushed row new (Some (mark, steps)) place long pushed))
