-- The items of rows, one row after the other.
use Rattle.std.proofs.Common.{◌≡◌, ◌≢◌, ◌⊎◌, inl, inr, ℕ, ◌+◌, ◌<◌, List, [], ◌∷◌, ◌++◌, length, length-append, take, Some, Result, Ok, Err, zero, suc, refl, sym, ap, ◌∙◌, arith, append_assoc}
use Rattle.std.proofs.lemmas.List.{append-nil, take-append-le}
use Rattle.std.proofs.lemmas.Option.{none-some, same_Some}
use Rattle.std.proofs.Math.Seq.{take-append_seam}
use Rattle.std.specs.List.{slice_get}
use Rattle.text_fields.specs.RowByRow.{AreItems, Faulty, IsFirstFault, items_below, judged}

-- an item of a list with one item more is one of the list, or the last one
pub get_more : {X : Type 0} (xs : List X) (y z : X) (place : ℕ) → slice_get (xs ++ y ∷ []) place ≡ Some z → ((place < length xs) × (slice_get xs place ≡ Some z)) ⊎ ((place ≡ length xs) × (y ≡ z))
get_more [] y z zero h = inr (refl, same_Some _ _ h)
get_more [] y z (suc place) h = absurd (none-some z h)
get_more (x ∷ xs) y z zero h = inl (omega arith, h)
get_more (x ∷ xs) y z (suc place) h =
    elim (get_more xs y z place h) [
      | inl e ↦ inl (omega (arith, e.0), e.1)
      | inr e ↦ inr (ap suc e.0, e.1)
    ]

same_ok : {T E : Type 0} (x y : T) → ◌≡◌ {A = Result T E} (Ok x) (Ok y) → x ≡ y
same_ok x y e = cc

same_err : {T E : Type 0} (x y : E) → ◌≡◌ {A = Result T E} (Err x) (Err y) → x ≡ y
same_err x y e = cc

ok_err : {T E : Type 0} (x : T) (y : E) → Ok x ≢ Err y
ok_err x y e = cc

module _ {Item Why : Type 0} (meaning : List Item → List (List ℕ) → Result Item Why) where
  -- no rows, no items
  pub no_items : AreItems meaning [] []
  no_items = record { as_many = refl; each = λ place row item h k. absurd (none-some row h) }

  -- one more row
  pub more_items : (rows : List (List (List ℕ))) (above : List Item) (row : List (List ℕ)) (item : Item) → AreItems meaning rows above
      → meaning above row ≡ Ok item → AreItems meaning (rows ++ row ∷ []) (above ++ item ∷ [])
  more_items rows above row item before is =
      record {
        as_many = omega (arith, length-append above (item ∷ []), length-append rows (row ∷ []), before.as_many);
        each = λ place r q h k.
            elim (get_more rows row r place h) [
              | inl e ↦
                  elim (get_more above item q place k) [
                    | inl f ↦ rw (take-append-le place above (item ∷ []) (omega (arith, f.0))) (before.each place r q e.1 f.1)
                    | inr f ↦ absurd (omega (arith, e.0, f.0, before.as_many))
                  ]
              | inr e ↦
                  elim (get_more above item q place k) [
                    | inl f ↦ absurd (omega (arith, e.0, f.0, before.as_many))
                    | inr f ↦ rw (f.0, take-append_seam above (item ∷ []), ← e.1, ← f.1) is
                  ]
            ];
      }

  -- these items are those of the rows, below others
  record Means (above : List Item) (rows : List (List (List ℕ))) (items : List Item) : Type 0 where
    as_many : length items ≡ length rows
    each : (place : ℕ) (row : List (List ℕ)) (item : Item) → slice_get rows place ≡ Some row → slice_get items place ≡ Some item → meaning (above ++ take place items) row ≡ Ok item

  none_mean : (above : List Item) → Means above [] []
  none_mean above = record { as_many = refl; each = λ place row item h k. absurd (none-some row h) }

  -- the first row means the first item
  first_means : (above : List Item) (row : List (List ℕ)) (rows : List (List (List ℕ))) (item : Item) (items : List Item)
      → Means above (row ∷ rows) (item ∷ items) → meaning above row ≡ Ok item
  first_means above row rows item items means = rw (append-nil above) at (means.each 0 row item refl refl)

  -- and the others those below it
  others_mean : (above : List Item) (row : List (List ℕ)) (rows : List (List (List ℕ))) (item : Item) (items : List Item)
      → Means above (row ∷ rows) (item ∷ items) → Means (above ++ item ∷ []) rows items
  others_mean above row rows item items means =
      record {
        as_many = omega (arith, means.as_many);
        each = λ place r q h k. rw (append_assoc above (item ∷ []) (take place items)) (means.each (suc place) r q h k);
      }

  -- a first row, and those below it
  one_more : (above : List Item) (row : List (List ℕ)) (rows : List (List (List ℕ))) (item : Item) (items : List Item)
      → meaning above row ≡ Ok item → Means (above ++ item ∷ []) rows items → Means above (row ∷ rows) (item ∷ items)
  one_more above row rows item items is means =
      record {
        as_many = omega (arith, means.as_many);
        each = λ place r q h k. at_place place r q h k;
      }
    where
      at_place : (place : ℕ) (r : List (List ℕ)) (q : Item) → slice_get (row ∷ rows) place ≡ Some r → slice_get (item ∷ items) place ≡ Some q → meaning (above ++ take place (item ∷ items)) r ≡ Ok q
      at_place zero r q h k = rw (append-nil above, ← same_Some _ _ h, ← same_Some _ _ k) is
      at_place (suc place) r q h k = rw (append_assoc above (item ∷ []) (take place items)) at (means.each place r q h k)

  -- the items of rows, and of further rows below them
  below_from : (above : List Item) (rows : List (List (List ℕ))) (items : List Item) (more : List (List (List ℕ))) → Means above rows items
      → items_below meaning above (rows ++ more) ≡ items_below meaning (above ++ items) more
  below_from above [] [] more means = rw (append-nil above) refl
  below_from above [] (item ∷ items) more means = absurd (omega (arith, means.as_many))
  below_from above (row ∷ rows) [] more means = absurd (omega (arith, means.as_many))
  below_from above (row ∷ rows) (item ∷ items) more means =
      let rest = below_from (above ++ item ∷ []) rows items more (others_mean above row rows item items means) in
      rw (first_means above row rows item items means) (rest ∙ ap (λ all. items_below meaning all more) (append_assoc above (item ∷ []) items))

  from_are : (rows : List (List (List ℕ))) (items : List Item) → AreItems meaning rows items → Means [] rows items
  from_are rows items are = record { as_many = are.as_many; each = are.each }

  -- the items of rows, and of further rows below them
  items_so_far : (rows more : List (List (List ℕ))) (items : List Item) → AreItems meaning rows items
      → items_below meaning [] (rows ++ more) ≡ items_below meaning items more
  items_so_far rows more items are = below_from [] rows items more (from_are rows items are)

  -- the items of all rows
  pub all_items : (rows : List (List (List ℕ))) (items : List Item) → AreItems meaning rows items → items_below meaning [] rows ≡ Ok items
  all_items rows items are = ap (items_below meaning []) (sym (append-nil rows)) ∙ items_so_far rows [] items are

  -- the first row that means nothing
  pub first_fault : (rows : List (List (List ℕ))) (number : ℕ) (why : Why) → IsFirstFault meaning rows number why
      → items_below meaning [] rows ≡ Err (record { number = number; why = why })
  first_fault rows number why fault =
      let so_far = items_so_far fault.before (fault.row ∷ fault.rest) fault.above fault.read in
      let here : items_below meaning fault.above (fault.row ∷ fault.rest) ≡ Err (record { number = length fault.above + 1; why = why }) = rw fault.faulty refl in
      let same : length fault.above + 1 ≡ number = omega (arith, fault.numbered, fault.read.as_many) in
      ap (items_below meaning []) fault.split ∙ so_far ∙ here ∙ ap (λ n. Err (record { number = n; why = why })) same

  -- items of all rows
  record AllMean (above : List Item) (rows : List (List (List ℕ))) (all : List Item) : Type 0 where
    items : List Item
    split : all ≡ above ++ items
    means : Means above rows items

  next_ok : (above : List Item) (row : List (List ℕ)) (rows : List (List (List ℕ))) (all : List Item) (m : Result Item Why) → meaning above row ≡ m
      → judged (length above + 1) m (λ item. items_below meaning (above ++ item ∷ []) rows) ≡ Ok all
      → ((item : Item) → items_below meaning (above ++ item ∷ []) rows ≡ Ok all → AllMean (above ++ item ∷ []) rows all)
      → AllMean above (row ∷ rows) all
  next_ok above row rows all (Ok item) is h below =
      let further = below item h in
      record {
        items = item ∷ further.items;
        split = further.split ∙ append_assoc above (item ∷ []) further.items;
        means = one_more above row rows item further.items is further.means;
      }
  next_ok above row rows all (Err why) is h below = absurd (ok_err all (record { number = length above + 1; why = why }) (sym h))

  from_ok : (above : List Item) (rows : List (List (List ℕ))) (all : List Item) → items_below meaning above rows ≡ Ok all → AllMean above rows all
  from_ok above [] all h = record { items = []; split = sym (same_ok above all h) ∙ sym (append-nil above); means = none_mean above }
  from_ok above (row ∷ rows) all h =
      next_ok above row rows all (meaning above row) refl h (λ item. from_ok (above ++ item ∷ []) rows all)

  -- the first row that means nothing, below others
  record FaultBelow (above : List Item) (rows : List (List (List ℕ))) (fault : Faulty Why) : Type 0 where
    before : List (List (List ℕ))
    row : List (List ℕ)
    rest : List (List (List ℕ))
    items : List Item
    split : rows ≡ before ++ row ∷ rest
    numbered : fault.number ≡ length above + length before + 1
    means : Means above before items
    faulty : meaning (above ++ items) row ≡ Err fault.why

  one_further : (above : List Item) (item : Item) (before : List (List (List ℕ))) (row : List (List ℕ)) → length (above ++ item ∷ []) + length before + 1 ≡ length above + length (row ∷ before) + 1
  one_further above item before row = omega (arith, length-append above (item ∷ []))

  next_err : (above : List Item) (row : List (List ℕ)) (rows : List (List (List ℕ))) (fault : Faulty Why) (m : Result Item Why) → meaning above row ≡ m
      → judged (length above + 1) m (λ item. items_below meaning (above ++ item ∷ []) rows) ≡ Err fault
      → ((item : Item) → items_below meaning (above ++ item ∷ []) rows ≡ Err fault → FaultBelow (above ++ item ∷ []) rows fault)
      → FaultBelow above (row ∷ rows) fault
  next_err above row rows fault (Ok item) is h below =
      let further = below item h in
      record {
        before = row ∷ further.before;
        row = further.row;
        rest = further.rest;
        items = item ∷ further.items;
        split = ap (λ rest. row ∷ rest) further.split;
        numbered = further.numbered ∙ one_further above item further.before row;
        means = one_more above row further.before item further.items is further.means;
        faulty = rw append_assoc at further.faulty;
      }
  next_err above row rows fault (Err why) is h below =
      let same = same_err (record { number = length above + 1; why = why }) fault h in
      record {
        before = [];
        row = row;
        rest = rows;
        items = [];
        split = refl;
        numbered = omega (arith, ap (λ (f : Faulty Why). f.number) same);
        means = none_mean above;
        faulty = rw (append-nil above) (is ∙ ap (λ (f : Faulty Why). Err f.why) same);
      }

  from_err : (above : List Item) (rows : List (List (List ℕ))) (fault : Faulty Why) → items_below meaning above rows ≡ Err fault → FaultBelow above rows fault
  from_err above [] fault h = absurd (ok_err above fault h)
  from_err above (row ∷ rows) fault h =
      next_err above row rows fault (meaning above row) refl h (λ item. from_err (above ++ item ∷ []) rows fault)

  -- computed items are those of all rows
  pub all_mean : (rows : List (List (List ℕ))) (items : List Item) → items_below meaning [] rows ≡ Ok items → AreItems meaning rows items
  all_mean rows items h =
      let all = from_ok [] rows items h in
      rw all.split record { as_many = all.means.as_many; each = all.means.each }

  -- a computed fault is that of the first row that means nothing
  pub fault_means : (rows : List (List (List ℕ))) (fault : Faulty Why) → items_below meaning [] rows ≡ Err fault → IsFirstFault meaning rows fault.number fault.why
  fault_means rows fault h =
      let found = from_err [] rows fault h in
      record {
        before = found.before;
        row = found.row;
        rest = found.rest;
        above = found.items;
        split = found.split;
        numbered = omega (arith, found.numbered);
        read = record { as_many = found.means.as_many; each = found.means.each };
        faulty = found.faulty;
      }

  -- what holds of no items, and of one item more below items of which it holds, holds of the items of all rows
  module _ (Holds : List Item → Type 0) (more : (above : List Item) (row : List (List ℕ)) (item : Item) → Holds above → meaning above row ≡ Ok item → Holds (above ++ item ∷ [])) where
    held_below : (above : List Item) (rows : List (List (List ℕ))) (items : List Item) → Holds above → Means above rows items → Holds (above ++ items)
    held_below above [] [] holds means = rw (append-nil above) holds
    held_below above [] (item ∷ items) holds means = absurd (omega (arith, means.as_many))
    held_below above (row ∷ rows) [] holds means = absurd (omega (arith, means.as_many))
    held_below above (row ∷ rows) (item ∷ items) holds means =
        let next = more above row item holds (first_means above row rows item items means) in
        rw append_assoc at (held_below (above ++ item ∷ []) rows items next (others_mean above row rows item items means))

    pub held : (rows : List (List (List ℕ))) (items : List Item) → Holds [] → AreItems meaning rows items → Holds items
    held rows items none are = held_below [] rows items none (from_are rows items are)
