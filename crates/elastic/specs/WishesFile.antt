-- What a wishes file means: the wish that all its rows say, or its first row that says nothing.
use Rattle.std.specs.Prelude.{◌≡◌, ℕ, ◌+◌, ◌≤◌, List, [], ◌∷◌, ◌++◌, if◌then◌else◌, nat_lt, length, map}
use Rattle.std.specs.Prelude.{Result, Ok, Err, All, ⊤}
use Rattle.text_fields.specs.CsvRows.{rows_of, trimmed}
use Rattle.text_fields.specs.RecordReading.{ReadsRecords}
use Rattle.text_fields.specs.declared.records.RecordReader.{RecordReader}
use Rattle.text_fields.specs.RowByRow.{AreItems, Faulty, IsFirstFault, items_below}
use Rattle.elastic.specs.Combination.{choices}
use Rattle.elastic.specs.WishRow.{WishLine, Start, Operation, meaning, start_of}
use Rattle.elastic.specs.declared.wish.Wish.{Wish}
use Rattle.elastic.specs.declared.wish.WishOp.{WishOp}
use Rattle.elastic.specs.declared.wish_fault.WishWhy.{WishWhy}
use Rattle.elastic.specs.declared.wish_fault.WishFault.{WishFault}
use Rattle.elastic.specs.declared.wish_fault.WishFault.TheVariants.{Row, Memory}

-- the lines that say a wish: its start, and its operations in their order
abbrev pub lines_of : Wish → List WishLine
lines_of wish = Start wish.start ∷ map Operation wish.ops

-- the rows say this wish, one row each line, and it has an operation
pub record SayWish (rows : List (List (List ℕ))) (wish : Wish) : Type 0 where
  pub each : AreItems meaning rows (lines_of wish)
  pub some : 1 ≤ length wish.ops

-- the row that fewer than two rows lack. It has no field, so that its word is missing
abbrev pub lacking : List (List (List ℕ)) → List (List (List ℕ))
lacking rows = if nat_lt (length rows) 2 then [] ∷ [] else []

-- the fault that rows give: the first that says nothing, be it the one that is lacking. Want of memory says nothing of
-- them
abbrev pub IsWishFault : List (List (List ℕ)) → WishFault → Type 0
IsWishFault rows (Row number why) = IsFirstFault meaning (rows ++ lacking rows) number why
IsWishFault rows Memory = ⊤

-- the operations that lines say
abbrev pub operations_said : List WishLine → List WishOp
operations_said [] = []
operations_said (Start start ∷ lines) = operations_said lines
operations_said (Operation op ∷ lines) = op ∷ operations_said lines

-- the start that lines say
abbrev pub start_said : List WishLine → ℕ
start_said [] = 0
start_said (Start start ∷ lines) = start
start_said (Operation op ∷ lines) = 0

-- the wish of lines, or the fault of a row
abbrev pub wish_or_fault : Result (List WishLine) (Faulty WishWhy) → Result Wish WishFault
wish_or_fault (Ok lines) = Ok (record { start = start_said lines; ops = operations_said lines })
wish_or_fault (Err fault) = Err (Row fault.number fault.why)

-- the wish of rows, or their fault
unfoldable pub wish_of_rows : List (List (List ℕ)) → Result Wish WishFault
wish_of_rows rows = wish_or_fault (items_below meaning [] (rows ++ lacking rows))

-- the wish of a file, or its fault
unfoldable pub wish_of : List ℕ → Result Wish WishFault
wish_of bytes = wish_of_rows (rows_of bytes)

-- an operation of a file leaves 1 to 8 choices
abbrev pub HasFileChoices : WishOp → Type 0
HasFileChoices op = (1 ≤ choices op) × (choices op ≤ 8)

-- the wish of a file has 1 to 16 operations, and each leaves 1 to 8 choices
pub record IsLegalWish (wish : Wish) : Type 0 where
  pub some : 1 ≤ length wish.ops
  pub few : length wish.ops ≤ 16
  pub each : All HasFileChoices wish.ops

-- the fault of one row, by its number and what it means; want of memory says nothing of it
abbrev pub IsFaultOfRow : ℕ → Result WishOp WishWhy → WishFault → Type 0
IsFaultOfRow place meant (Row number why) = (number ≡ place) × (meant ≡ Err why)
IsFaultOfRow place meant Memory = ⊤

-- the first row was read, and says this start
pub record ReadsStart (bytes : List ℕ) (reader : RecordReader) (start : ℕ) : Type 0 where
  pub fields : List (List ℕ)
  pub reads : ReadsRecords bytes reader (fields ∷ [])
  pub says : start_of (map trimmed fields) ≡ Ok start
