-- *Combination*: the changes that a wish leaves a choice of, by their numbers from 0.
--
-- A number takes one period from each list of periods, the last list running fastest: as the digits of a number whose
-- places have as many digits as the lists have periods.
use Rattle.std.specs.Prelude.{◌≡◌, ℕ, ◌+◌, ◌*◌, ◌/◌, ◌%◌, ◌<◌, ◌≤◌, ◌⊎◌, ⊤, min, get_or, take, length, slice_get}
use Rattle.std.specs.Prelude.{List, [], ◌∷◌, Some, option_map, All}
use Rattle.std.specs.List.{filter_map}
use Rattle.requirement_table.specs.declared.entries.Entry.{Entry}
use Rattle.change_protocol.specs.declared.operations.Op.{Op}
use Rattle.change_protocol.specs.declared.operations.Op.TheVariants as operation
use Rattle.change_protocol.specs.declared.operations.Change.{Change}
use Rattle.change_protocol.specs.Operations.{entry_of}
use Rattle.elastic.specs.declared.wish.Wish.{Wish}
use Rattle.elastic.specs.declared.wish.WishOp.{WishOp}
use Rattle.elastic.specs.declared.wish.WishOp.TheVariants.{Add, Remove}

-- the number of choices that an operation leaves
abbrev pub choices : WishOp → ℕ
choices (Add entry periods) = length periods
choices (Remove slot) = 1

-- the number of combinations of operations
abbrev pub combinations : List WishOp → ℕ
combinations [] = 1
combinations (op ∷ ops) = choices op * combinations ops

-- an entry with this period, and with its deadline or the period, whichever is less
abbrev pub with_period : Entry → ℕ → Entry
with_period entry period = record entry { period = period; deadline = min entry.deadline period }

-- which of so many choices a number takes, where the operations behind have so many combinations
abbrev pub taken_of : ℕ → ℕ → ℕ → ℕ
taken_of number behind count = number / behind % count

-- what becomes of an operation in the combination with this number, where those behind it have so many combinations
abbrev pub operation_in : ℕ → ℕ → WishOp → Op
operation_in number behind (Add entry periods) =
    operation.Add (with_period entry (get_or periods (taken_of number behind (length periods)) 0))
operation_in number behind (Remove slot) = operation.Remove slot

-- the operations of the combination with this number
abbrev pub operations_in : ℕ → List WishOp → List Op
operations_in number [] = []
operations_in number (op ∷ ops) = operation_in number (combinations ops) op ∷ operations_in number ops

-- the change of the combination with this number
abbrev pub change_of : Wish → ℕ → Change
change_of wish number = record { start = wish.start; ops = operations_in number wish.ops }

-- the periods of the entries that operations place, in the order of the operations
abbrev pub periods_of : List Op → List ℕ
periods_of ops = filter_map (λ op. option_map (λ (entry : Entry). entry.period) (entry_of op)) ops

-- the operation leaves a choice, though it be one choice alone
abbrev pub HasChoice : WishOp → Type 0
HasChoice op = 1 ≤ choices op

-- there are no more periods than their type has numbers
abbrev pub HasFewChoices : WishOp → Type 0
HasFewChoices op = choices op ≤ 65536

-- the operation at this place, from 0, is the first that adds an entry without a period to choose
pub record IsFirstWithoutPeriod (ops : List WishOp) (place : ℕ) : Type 0 where
  pub op : WishOp
  pub at : slice_get ops place ≡ Some op
  pub none : choices op ≡ 0
  pub before : All HasChoice (take place ops)

-- there are more than 4,096 combinations, and this is their number up to the first operation with which it passes that
pub record AreTooMany (ops : List WishOp) (count : ℕ) : Type 0 where
  pub place : ℕ
  pub within : place < length ops
  pub few : combinations (take place ops) ≤ 4096
  pub counted : count ≡ combinations (take (place + 1) ops)
  pub passed : 4096 < count
  pub many : 4096 < combinations ops

-- a choice can be made: each operation leaves one, and there are at most 4,096 combinations
pub record AreChoosable (ops : List WishOp) : Type 0 where
  pub each : All HasChoice ops
  pub few : combinations ops ≤ 4096

-- The same by places: which choice is taken of each operation

-- the places that the combination with this number takes, one for each operation, from 0
abbrev pub places_in : ℕ → List WishOp → List ℕ
places_in number [] = []
places_in number (op ∷ ops) = taken_of number (combinations ops) (choices op) ∷ places_in number ops

-- each place is that of one choice of its operation
abbrev pub AreChoices : List WishOp → List ℕ → Type 0
AreChoices [] [] = ⊤
AreChoices [] (place ∷ places) = ⊥
AreChoices (op ∷ ops) [] = ⊥
AreChoices (op ∷ ops) (place ∷ places) = (place < choices op) × AreChoices ops places

-- what becomes of an operation of which this choice is taken
abbrev pub operation_at : ℕ → WishOp → Op
operation_at place (Add entry periods) = operation.Add (with_period entry (get_or periods place 0))
operation_at place (Remove slot) = operation.Remove slot

abbrev pub operations_at : List WishOp → List ℕ → List Op
operations_at [] places = []
operations_at (op ∷ ops) [] = []
operations_at (op ∷ ops) (place ∷ places) = operation_at place op ∷ operations_at ops places

-- where two lists of places differ first, the one has the lesser place
abbrev pub IsLexicallyBefore : List ℕ → List ℕ → Type 0
IsLexicallyBefore [] others = ⊥
IsLexicallyBefore (place ∷ places) [] = ⊥
IsLexicallyBefore (place ∷ places) (other ∷ others) = (place < other)
    ⊎ ((place ≡ other) × IsLexicallyBefore places others)
