-- What one row of a wishes file says, below the rows above it.
use Rattle.std.specs.Prelude.{ℕ, ◌-◌, ◌^◌, ◌==◌, nat_lt, List, [], ◌∷◌, length, ok_or, Result, Ok}
use Rattle.text_fields.specs.CsvRows.{number_at}
use Rattle.text_fields.specs.Whys.{◌>>=◌, where_holds}
use Rattle.elastic.specs.WishFields.{begins, has_fields, said_as, verb_of}
use Rattle.elastic.specs.declared.wish.WishOp.{WishOp}
use Rattle.elastic.specs.declared.wish_fault.WishWhy.{WishWhy}
use Rattle.elastic.specs.declared.wish_fault.WishWhy.TheVariants.{Word, Fields, Number, Many}

-- what a row says: the start of the wish, or one of its operations
pub data WishLine : Type 0 where
  Start : ℕ → WishLine
  Operation : WishOp → WishLine

-- the start that a first row says, or the first why, in this order, for which it says none
unfoldable pub start_of : List (List ℕ) → Result ℕ WishWhy
start_of row = do
  first ← where_holds (begins row) row Word
  fields ← where_holds (length first == 2) first Fields
  ok_or (number_at fields 1 0 (2 ^ 64 - 1)) Number

-- the operation that a row says below so many operations, or the first why, in this order, for which it says none
unfoldable pub operation_of : ℕ → List (List ℕ) → Result WishOp WishWhy
operation_of above row = do
  verb ← ok_or (verb_of row) Word
  fields ← where_holds (has_fields verb (length row)) row Fields
  op ← ok_or (said_as verb fields) Number
  where_holds (nat_lt above 16) op Many

-- what a row says below what the rows above it say: the first one says the start, and each other one an operation
unfoldable pub meaning : List WishLine → List (List ℕ) → Result WishLine WishWhy
meaning [] row = start_of row >>= λ start. Ok (Start start)
meaning (first ∷ ops) row = operation_of (length ops) row >>= λ op. Ok (Operation op)
