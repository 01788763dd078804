-- A table from each number to the place at which it stands in a list of rising numbers, and what it says of mailboxes.
use Rattle.std.proofs.Common.{◌≡◌, ◌≢◌, ◌↔◌, ℕ, zero, suc, ◌+◌, ◌<◌, ◌≤◌, Some, List, [], ◌∷◌, length, get_or, set, replicate, map, All, AllPairs, inl, inr, refl, sym, ap, ◌∙◌, arith}
use Rattle.std.specs.List.{slice_get}
use Rattle.std.proofs.lemmas.Bool.{cases_eq, cases_lt, cases_order}
use Rattle.async_window.specs.Mailbox.{Mail, unsent_of}
use Rattle.async_window.specs.Sorted.{nowhere, IsPlaceTable, IsPlaceOf}
use Rattle.async_window.proofs.Unsent.{AllPairs-map, unsent_of-here, unsent_of-later}
use Rattle.std.proofs.lemmas.List.{length-set, length-replicate, length-map, get_or-map}
use Rattle.std.proofs.lemmas.List.Elements.{All-map}
use Rattle.std.proofs.lemmas.Option.{slice_get-get_or, get_or_from_slice_get, slice_get_within}

slice_get-set_same : {X : Type 0} (xs : List X) (i : ℕ) (y : X) → i < length xs → slice_get (set xs i y) i ≡ Some y
slice_get-set_same [] i y within = absurd (omega arith)
slice_get-set_same (x ∷ xs) zero y within = refl
slice_get-set_same (x ∷ xs) (suc i) y within = slice_get-set_same xs i y (omega arith)

slice_get-set_other : {X : Type 0} (xs : List X) (i j : ℕ) (y : X) → j ≢ i → slice_get (set xs i y) j ≡ slice_get xs j
slice_get-set_other [] i j y apart = refl
slice_get-set_other (x ∷ xs) zero zero y apart = absurd (apart refl)
slice_get-set_other (x ∷ xs) zero (suc j) y apart = refl
slice_get-set_other (x ∷ xs) (suc i) zero y apart = refl
slice_get-set_other (x ∷ xs) (suc i) (suc j) y apart = slice_get-set_other xs i j y (λ same. apart (ap (λ n. suc n) same))

-- the table has the places below i
pub record IsTable (ids : List ℕ) (i : ℕ) (table : List ℕ) : Type 0 where
  pub length : length table ≡ 2048
  pub places : (id place : ℕ) → id < 2048 → place < nowhere → (slice_get table id ≡ Some place) ↔ ((place < i) × (slice_get ids place ≡ Some id))

pub IsTable-more : (ids : List ℕ) (i : ℕ) (table : List ℕ) (x : ℕ) → AllPairs (λ one other. one < other) ids
    → i < length ids → x ≡ get_or ids i 0 → x < 2048 → IsTable ids i table → IsTable ids (i + 1) (set table x i)
IsTable-more ids i table x rising within is_x small known =
    let here : slice_get ids i ≡ Some x = slice_get-get_or ids i 0 within ∙ ap (λ n. Some n) (sym is_x) in
    record {
      length = omega (arith, known.length, length-set table x i);
      places = λ id place below under. elim (cases_eq id x) [
        | inl same ↦
            let found : slice_get (set table x i) id ≡ Some i
            = grind (arith, slice_get-set_same) in (
              λ is. let at : i ≡ place = cc in (omega arith, ap (λ n. slice_get ids n) (sym at) ∙ here ∙ ap (λ n. Some n) (sym same)),
              λ is. elim (cases_order place i) [
                | inl at ↦ found ∙ ap (λ n. Some n) (sym at)
                | inr apart ↦
                    let before : place < i = elim apart [ inl less ↦ less | inr more ↦ absurd (omega (arith, is.0)) ] in
                    let less : get_or ids place 0 < get_or ids i 0 = rising place i 0 before within in
                    let equal : get_or ids place 0 ≡ get_or ids i 0 = get_or_from_slice_get ids place id 0 is.1 ∙ same ∙ is_x in
                    absurd (omega arith)
              ],
            )
        | inr apart ↦
            let kept : slice_get (set table x i) id ≡ slice_get table id = slice_get-set_other table x id i apart in (
              λ is. let old = (known.places id place below under).0 (sym kept ∙ is) in (omega (arith, old.0), old.1),
              λ is. elim (cases_eq place i) [
                | inl at ↦
                    let same : x ≡ id = let e : Some x ≡ Some id = sym here ∙ ap (λ n. slice_get ids n) (sym at) ∙ is.1 in cc in
                    absurd (apart (sym same))
                | inr other ↦ kept ∙ (known.places id place below under).1 (omega (arith, is.0), is.1)
              ],
            )
      ];
    }

slice_get-replicate : {X : Type 0} (n i : ℕ) (x y : X) → slice_get (replicate n x) i ≡ Some y → y ≡ x
slice_get-replicate zero i x y is = let none : ⊥ = cc in absurd none
slice_get-replicate (suc n) zero x y is = cc
slice_get-replicate (suc n) (suc i) x y is = slice_get-replicate n i x y is

pub IsTable-none : (ids table : List ℕ) → table ≡ replicate 2048 nowhere → IsTable ids 0 table
IsTable-none ids table is = record {
  length = ap (λ xs. length xs) is ∙ length-replicate {A = ℕ} 2048 nowhere;
  places = λ id place below under. (
    λ found.
        let same : place ≡ nowhere = slice_get-replicate {X = ℕ} 2048 id nowhere place (ap (λ xs. slice_get xs id) (sym is) ∙ found) in
        absurd (omega arith),
    λ found. absurd (omega (arith, found.0)),
  );
}

pub IsTable-all : (ids : List ℕ) (i : ℕ) (table : List ℕ) → length ids ≤ i → IsTable ids i table
    → (id place : ℕ) → id < 2048 → place < nowhere → (slice_get table id ≡ Some place) ↔ (slice_get ids place ≡ Some id)
IsTable-all ids i table all known id place below under = grind (arith, slice_get_within)

-- rising numbers are not below their places
pub rising-above : (xs : List ℕ) (low i : ℕ) → AllPairs (λ one other. one < other) xs → ((d : ℕ) → 0 < length xs → low ≤ get_or xs 0 d)
    → i < length xs → low + i ≤ get_or xs i 0
rising-above xs low zero rising first within = let here : low ≤ get_or xs 0 0 = first 0 within in omega arith
rising-above xs low (suc i) rising first within =
    let before : low + i ≤ get_or xs i 0 = rising-above xs low i rising first (omega arith) in
    grind arith

pub rising-few : (xs : List ℕ) → AllPairs (λ one other. one < other) xs → All (λ x. x < 2048) xs → length xs ≤ 2048
rising-few xs rising small =
    elim (cases_lt 2048 (length xs)) [
      | inl many ↦
          let high : 0 + 2048 ≤ get_or xs 2048 0 = rising-above xs 0 2048 rising (λ d some. omega arith) many in
          absurd (omega arith)
      | inr few ↦ few
    ]

-- mailboxes with rising identifiers are few
pub few-rising : (boxes : List Mail) → AllPairs (λ one other. one.identifier < other.identifier) boxes
    → All (λ box. box.identifier ≤ 0x7EF) boxes → length boxes ≤ 2048
few-rising boxes rising greatest =
    let few : length (map (λ (box : Mail). box.identifier) boxes) ≤ 2048
    = rising-few (map (λ (box : Mail). box.identifier) boxes)
    (AllPairs-map (λ one other. one < other) (λ (box : Mail). box.identifier) boxes
    (λ id. record { identifier = id; unsent = [] }) rising)
    (All-map (λ id. id < 2048) (λ (box : Mail). box.identifier) boxes
    (λ k d within. let low : (get_or boxes k d).identifier ≤ 0x7EF = greatest k d within in omega arith)) in
    omega (arith, length-map boxes (λ (box : Mail). box.identifier))

-- what the table says of mailboxes
module _ (boxes : List Mail) (table : List ℕ) (id place : ℕ) (few : length boxes ≤ 2048) (known : IsPlaceTable boxes table)
    (is : IsPlaceOf table id place) where
  placed : place < length boxes → id < 2048 → slice_get (map (λ box. box.identifier) boxes) place ≡ Some id
  placed within small = (known id place small (omega arith)).0 (is.found small)

  pub place-identifier : (d : Mail) → place < length boxes → (get_or boxes place d).identifier ≡ id
  place-identifier d within =
      elim (cases_lt id 2048) [
        | inl small ↦
            sym (get_or-map (λ (box : Mail). box.identifier) boxes place d 0 within)
            ∙ get_or_from_slice_get (map (λ (box : Mail). box.identifier) boxes) place id 0 (placed within small)
        | inr large ↦ let above : place ≡ nowhere = is.above large in absurd (omega arith)
      ]

  pub no_place : All (λ box. box.identifier ≤ 0x7EF) boxes → length boxes ≤ place → (k : ℕ) (d : Mail) → k < length boxes
      → (get_or boxes k d).identifier ≢ id
  no_place greatest past k d within same =
      let at : slice_get (map (λ (box : Mail). box.identifier) boxes) k ≡ Some id
      = slice_get-get_or (map (λ (box : Mail). box.identifier) boxes) k 0 (omega (arith, length-map boxes (λ (box : Mail). box.identifier)))
      ∙ ap (λ n. Some n) (get_or-map (λ (box : Mail). box.identifier) boxes k d 0 within ∙ same) in
      grind arith

-- an identifier by the place of its mailbox
pub unsent_of-at : (boxes : List Mail) (place : ℕ) (d : Mail) (id : ℕ) → AllPairs (λ one other. one.identifier ≢ other.identifier) boxes
    → place < length boxes → (get_or boxes place d).identifier ≡ id → unsent_of boxes id ≡ (get_or boxes place d).unsent
unsent_of-at [] place d id distinct within same = absurd (omega arith)
unsent_of-at (box ∷ boxes) zero d id distinct within same = unsent_of-here box boxes id same
unsent_of-at (box ∷ boxes) (suc place) d id distinct within same =
    unsent_of-later box boxes id (λ is. distinct 0 (suc place) d (omega arith) within (is ∙ sym same))
    ∙ unsent_of-at boxes place d id (λ i j e before inside. distinct (suc i) (suc j) e (omega arith) (omega arith)) (omega arith) same

pub unsent_of-nowhere : (boxes : List Mail) (id : ℕ) → ((k : ℕ) (d : Mail) → k < length boxes → (get_or boxes k d).identifier ≢ id)
    → unsent_of boxes id ≡ []
unsent_of-nowhere [] id none = refl
unsent_of-nowhere (box ∷ boxes) id none =
    unsent_of-later box boxes id (none 0 box (omega arith))
    ∙ unsent_of-nowhere boxes id (λ k d within. none (suc k) d (omega arith))
