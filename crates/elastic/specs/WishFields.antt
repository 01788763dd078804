-- What the fields of a row of a wishes file say, where each is a number in its range.
use Rattle.std.specs.Prelude.{ℕ, zero, suc, ◌+◌, ◌-◌, ◌==◌, ◌&&◌, Bool, if◌then◌else◌, nat_le}
use Rattle.std.specs.Prelude.{List, [], ◌∷◌, length, codes, unwrap_or, Option, Some, None, option_map, option_and_then}
use Rattle.std.specs.Str.{bytes_eq}
use Rattle.csv.specs.Records.{field_at}
use Rattle.requirement_table.specs.declared.entries.Entry.{Entry}
use Rattle.text_fields.specs.CsvRows.{number_at}
use Rattle.text_fields.specs.Optional.{◌>>=◌}
use Rattle.elastic.specs.declared.wish.WishOp.{WishOp}
use Rattle.elastic.specs.declared.wish.WishOp.TheVariants as wished
use Rattle.elastic.specs.declared.wish_rows.WishVerb.{WishVerb}
use Rattle.elastic.specs.declared.wish_rows.WishVerb.TheVariants.{Add, Remove}

-- whether the first field is `start`
abbrev pub begins : List (List ℕ) → Bool
begins row = bytes_eq (unwrap_or (field_at row 0) []) (codes "start")

-- what an operation does, by its word
abbrev pub verb_of_word : List ℕ → Option WishVerb
verb_of_word word =
    if bytes_eq word (codes "add") then Some Add
    else if bytes_eq word (codes "remove") then Some Remove
    else None

-- what the operation of a row does, by the first field
unfoldable pub verb_of : List (List ℕ) → Option WishVerb
verb_of row = option_and_then verb_of_word (field_at row 0)

-- whether a row has so many fields: `add`, SLOT, NODE, LENGTH, PHASE, DEADLINE, PRIORITY and 1 to 8 periods, or
-- `remove` and SLOT
abbrev pub has_fields : WishVerb → ℕ → Bool
has_fields Add fields = nat_le 8 fields && nat_le fields 15
has_fields Remove fields = fields == 2

-- the entry that a row describes, whose period is still to be chosen and stands as 0
abbrev pub entry_in : List (List ℕ) → Option Entry
entry_in row = do
  slot ← number_at row 1 0 255
  node ← number_at row 2 0 255
  len ← number_at row 3 0 255
  phase ← number_at row 4 0 65535
  deadline ← number_at row 5 0 65535
  priority ← number_at row 6 0 255
  Some (record {
    slot = slot;
    node = node;
    length = len;
    phase = phase;
    period = 0;
    deadline = deadline;
    priority = priority;
  })

-- the numbers in so many fields from this place on, where each is one of 0 to 65,535
abbrev pub numbers_from : List (List ℕ) → ℕ → ℕ → Option (List ℕ)
numbers_from row place zero = Some []
numbers_from row place (suc count) =
    option_and_then (λ number. option_map (λ numbers. number ∷ numbers) (numbers_from row (place + 1) count))
    (number_at row place 0 65535)

-- the periods of a row: the numbers in the eighth field and those behind it
unfoldable pub periods_in : List (List ℕ) → Option (List ℕ)
periods_in row = numbers_from row 7 (length row - 7)

-- the operation that adds an entry, with the periods of a row
abbrev pub adding : List (List ℕ) → Option WishOp
adding row = do
  entry ← entry_in row
  periods ← periods_in row
  Some (wished.Add entry periods)

-- the operation that a row says
unfoldable pub said_as : WishVerb → List (List ℕ) → Option WishOp
said_as Add row = adding row
said_as Remove row = option_map wished.Remove (number_at row 1 0 255)
