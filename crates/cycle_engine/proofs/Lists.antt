-- Elements of lists.
use Rattle.std.proofs.Common.{◌≡◌, ◌≢◌, ℕ, suc, false, cond, List, [], ◌∷◌, map, AllPairs, Contains, Option, None, Some, ◌⊎◌, inl, inr, refl, sym, ap, ◌∙◌, subst, get_or, arith, All}
use Rattle.std.specs.List.{slice_get, filter_map, cons_option, find}
use Rattle.std.proofs.lemmas.Bool.{cases_order, cases_eq, eq-eqb, ne_eqb}
use Rattle.std.proofs.lemmas.List.{get_or_default}
use Rattle.std.proofs.lemmas.List.Elements.{All-cons, All-contains, All-head, All-map, All-tail, Contains-get_or}
use Rattle.std.proofs.lemmas.Option.{slice_get_within, get_or_from_slice_get}
use Rattle.cycle_engine.specs.Stations.{offers_this}
pub use Rattle.bus_line.proofs.Shared.{AllPairs-cons, AllPairs-head, AllPairs-tail}
pub use Rattle.node_model.proofs.Shared.{Contains-filter, Contains-from_map, Contains-map}

-- what stands at a place is an element
pub Contains-slice_get : {X : Type 0} (xs : List X) (i : ℕ) (x : X) → slice_get xs i ≡ Some x → Contains xs x
Contains-slice_get xs i x at = (i, slice_get_within xs i x at, get_or_from_slice_get xs i x x at)

-- where no two elements have the same number, elements of the same number are the same
pub same_by_number : {X : Type 0} (number : X → ℕ) (xs : List X) (x y : X) → AllPairs (λ one other. number one ≢ number other) xs
    → Contains xs x → Contains xs y → number x ≡ number y → x ≡ y
same_by_number {X} number xs x y apart (i, i_within, i_is) (j, j_within, j_is) same =
    let y_there : get_or xs j x ≡ y = get_or_default xs j x y j_within ∙ j_is in
    grind (arith, get_or_default, cases_order)

module _ {X : Type 0} where
  pub Contains-here : (x : X) (xs : List X) → Contains (x ∷ xs) x
  Contains-here x xs = (0, omega arith, refl)

  pub Contains-later : (x : X) (xs : List X) (y : X) → Contains xs y → Contains (x ∷ xs) y
  Contains-later x xs y (k, within, is) = (suc k, omega arith, is)

  pub Contains-cases : (x : X) (xs : List X) (y : X) → Contains (x ∷ xs) y → (x ≡ y) ⊎ Contains xs y
  Contains-cases x xs y h0 = grind arith

  pub Contains-nil : (y : X) → Contains [] y → ⊥
  Contains-nil y (k, within, is) = omega arith

module _ {X Y : Type 0} (h : X → Option Y) where
  abbrev From : List X → Y → Type 0
  From xs y = (x : X) × Contains xs x × (h x ≡ Some y)

  from_first : (x : X) (xs : List X) (y : Y) (o : Option Y) → h x ≡ o → (Contains (filter_map h xs) y → From xs y)
      → Contains (cons_option o (filter_map h xs)) y → From (x ∷ xs) y
  from_first x xs y o is later has = grind (arith, Contains-later, Contains-cases, Contains-here)

  -- what a function gives comes from an element
  pub Contains-from_filter_map : (xs : List X) (y : Y) → Contains (filter_map h xs) y → (x : X) × Contains xs x × (h x ≡ Some y)
  Contains-from_filter_map [] y has = absurd (Contains-nil y has)
  Contains-from_filter_map (x ∷ xs) y has = from_first x xs y (h x) refl (Contains-from_filter_map xs y) has

  behind_first : (zs : List X) (y : Y) (o : Option Y) → Contains (filter_map h zs) y → Contains (cons_option o (filter_map h zs)) y
  behind_first zs y None later = later
  behind_first zs y (Some own) later = Contains-later own (filter_map h zs) y later

  pub Contains-filter_map : (xs : List X) (x : X) (y : Y) → Contains xs x → h x ≡ Some y → Contains (filter_map h xs) y
  Contains-filter_map [] x y has is = absurd (Contains-nil x has)
  Contains-filter_map (z ∷ zs) x y has is = elim (Contains-cases z zs x has) [
    | inl same ↦ subst (λ o. Contains (cons_option o (filter_map h zs)) y) (sym (ap h same ∙ is)) (Contains-here y (filter_map h zs))
    | inr later ↦ behind_first zs y (h z) (Contains-filter_map zs x y later is)
  ]

module _ {X : Type 0} (offer : X → Option ℕ) where
  abbrev first_with : ℕ → List X → Option X
  first_with id xs = find (λ y. offers_this id (offer y)) xs

  abbrev Found : ℕ → List X → Type 0
  Found id xs = (x : X) × Contains xs x × (offer x ≡ Some id) × (first_with id xs ≡ Some x)

  found_later : (x : X) (xs : List X) (id : ℕ) → offers_this id (offer x) ≡ false → Found id xs → Found id (x ∷ xs)
  found_later x xs id other found = (found.0, Contains-later x xs found.0 found.1, found.2, ap (λ b. cond b (Some x) (first_with id xs)) other ∙ found.3)

  found_first : (x : X) (xs : List X) (id : ℕ) (o : Option ℕ) → offer x ≡ o → (Contains (filter_map offer xs) id → Found id xs)
      → Contains (cons_option o (filter_map offer xs)) id → Found id (x ∷ xs)
  found_first x xs id None is later has = found_later x xs id (ap (offers_this id) is) (later has)
  found_first x xs id (Some own) is later has = elim (cases_eq own id) [
    | inl same ↦ (x, Contains-here x xs, is ∙ ap (λ z. Some z) same, ap (λ b. cond b (Some x) (first_with id xs)) (ap (offers_this id) is ∙ eq-eqb own id same))
    | inr other ↦ found_later x xs id (ap (offers_this id) is ∙ ne_eqb own id other)
        (later (elim (Contains-cases own (filter_map offer xs) id has) [ inl same ↦ absurd (other same) | inr behind ↦ behind ]))
  ]

  -- the first of those that offer an identifier is found
  pub find-offered : (xs : List X) (id : ℕ) → Contains (filter_map offer xs) id
      → (x : X) × Contains xs x × (offer x ≡ Some id) × (find (λ y. offers_this id (offer y)) xs ≡ Some x)
  find-offered [] id has = absurd (Contains-nil id has)
  find-offered (x ∷ xs) id has = found_first x xs id (offer x) refl (find-offered xs id) has

-- what holds behind a function
pub All-from_map : {X Y : Type 0} (f : X → Y) (P : Y → Type 0) (xs : List X) → All P (map f xs) → All (λ x. P (f x)) xs
All-from_map f P [] all = λ k d within. absurd (omega arith)
All-from_map f P (x ∷ xs) all =
    All-cons (λ y. P (f y)) x xs (All-head P (f x) (map f xs) all) (All-from_map f P xs (All-tail P (f x) (map f xs) all))

pub AllPairs-map : {X Y : Type 0} (R : Y → Y → Type 0) (f : X → Y) (xs : List X) → AllPairs (λ x y. R (f x) (f y)) xs → AllPairs R (map f xs)
AllPairs-map R f [] pairs = λ i j d before within. absurd (omega arith)
AllPairs-map R f (x ∷ xs) pairs =
    AllPairs-cons R (f x) (map f xs) (All-map (R (f x)) f xs (AllPairs-head (λ a b. R (f a) (f b)) x xs pairs))
    (AllPairs-map R f xs (AllPairs-tail (λ a b. R (f a) (f b)) x xs pairs))

-- what holds of each element that there is
pub All-from_contains : {X : Type 0} (P : X → Type 0) (xs : List X) → ((x : X) → Contains xs x → P x) → All P xs
All-from_contains P xs each = λ k d within. each (get_or xs k d) (Contains-get_or xs k d within)

-- where a function gives different values at any two elements, what it gives is distinct
module _ {X : Type 0} (h : X → Option ℕ) (R : X → X → Type 0) (apart : (x y : X) (a b : ℕ) → R x y → h x ≡ Some a → h y ≡ Some b → a ≢ b) where
  put_before : (x : X) (xs : List X) (o : Option ℕ) → h x ≡ o → All (R x) xs → AllPairs (λ a b. a ≢ b) (filter_map h xs)
      → AllPairs (λ a b. a ≢ b) (cons_option o (filter_map h xs))
  put_before x xs None is first rest = rest
  put_before x xs (Some a) is first rest =
      AllPairs-cons (λ a b. a ≢ b) a (filter_map h xs)
      (All-from_contains (λ b. a ≢ b) (filter_map h xs) (λ b has.
      let found = Contains-from_filter_map h xs b has in apart x found.0 a b (All-contains (R x) xs found.0 first found.1) is found.2)) rest

  pub AllPairs-filter_map : (xs : List X) → AllPairs R xs → AllPairs (λ a b. a ≢ b) (filter_map h xs)
  AllPairs-filter_map [] pairs = λ i j d before within. absurd (omega arith)
  AllPairs-filter_map (x ∷ xs) pairs =
      put_before x xs (h x) refl (AllPairs-head R x xs pairs) (AllPairs-filter_map xs (AllPairs-tail R x xs pairs))

-- a function that gives nothing
pub filter_map-none : {X Y : Type 0} (h : X → Option Y) (xs : List X) → All (λ x. h x ≡ None) xs → filter_map h xs ≡ []
filter_map-none h [] none = refl
filter_map-none h (x ∷ xs) none =
    ap (λ o. cons_option o (filter_map h xs)) (All-head (λ y. h y ≡ None) x xs none) ∙ filter_map-none h xs (All-tail (λ y. h y ≡ None) x xs none)
