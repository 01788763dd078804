-- What the rows of a file mean one by one, where what a row means may depend on the rows above it. `meaning above row`
-- is what a row means below the meanings of the rows above it, or why it means nothing.
use Rattle.std.specs.Prelude.{◌≡◌, ℕ, ◌+◌, List, [], ◌∷◌, ◌++◌, length, take, Some, Result, Ok, Err}
use Rattle.std.specs.List.{slice_get}

-- the items are as many as the rows, and each is what the row at its place means, below the items before it
pub record AreItems {Item Why : Type 0} (meaning : List Item → List (List ℕ) → Result Item Why)
    (rows : List (List (List ℕ))) (items : List Item) : Type 0 where
  pub as_many : length items ≡ length rows
  pub each : (place : ℕ) (row : List (List ℕ)) (item : Item) → slice_get rows place ≡ Some row
      → slice_get items place ≡ Some item → meaning (take place items) row ≡ Ok item

-- the row of this number, from 1, is the first that means nothing, and this is why
pub record IsFirstFault {Item Why : Type 0} (meaning : List Item → List (List ℕ) → Result Item Why)
    (rows : List (List (List ℕ))) (number : ℕ) (why : Why) : Type 0 where
  pub before : List (List (List ℕ))
  pub row : List (List ℕ)
  pub rest : List (List (List ℕ))
  pub above : List Item
  pub split : rows ≡ before ++ row ∷ rest
  pub numbered : number ≡ length before + 1
  pub read : AreItems meaning before above
  pub faulty : meaning above row ≡ Err why

-- a row that means nothing, by its number from 1, and why
pub record Faulty (Why : Type 0) : Type 0 where
  pub number : ℕ
  pub why : Why

-- what comes of a row of this number: what comes of the rows below it, or its fault
abbrev pub judged : {Item Why : Type 0} → ℕ → Result Item Why
    → (Item → Result (List Item) (Faulty Why)) → Result (List Item) (Faulty Why)
judged number (Ok item) below = below item
judged number (Err why) below = Err (record { number = number; why = why })

-- the items of rows that stand below these items, with those in front, or the first row that means nothing
abbrev pub items_below : {Item Why : Type 0} → (List Item → List (List ℕ) → Result Item Why)
    → List Item → List (List (List ℕ)) → Result (List Item) (Faulty Why)
items_below meaning above [] = Ok above
items_below meaning above (row ∷ rows) =
    judged (length above + 1) (meaning above row) (λ item. items_below meaning (above ++ item ∷ []) rows)
