-- What one row of a steps file says, below the rows above it.
use Rattle.std.specs.Prelude.{ℕ, ◌+◌, ◌-◌, ◌&&◌, Bool, true, false, nat_lt, nat_le, List}
use Rattle.std.specs.Prelude.{length, count_by, sum_by, option_map, ok_or, unwrap_or, Result}
use Rattle.std.specs.List.{slice_get}
use Rattle.profile.specs.Limits.{most_cycles}
use Rattle.text_fields.specs.Whys.{◌>>=◌, where_holds}
use Rattle.steps_file.specs.StepForm.{form_of, has_fields}
use Rattle.steps_file.specs.StepFields.{said_as}
use Rattle.steps_file.specs.declared.step_rows.StepLine.{StepLine}
use Rattle.steps_file.specs.declared.step_rows.StepLine.TheVariants as line
use Rattle.steps_file.specs.declared.step_fault.StepWhy.{StepWhy}
use Rattle.steps_file.specs.declared.step_fault.StepWhy.TheVariants.{Word, Fields, Number, Operator}
use Rattle.steps_file.specs.declared.step_fault.StepWhy.TheVariants.{Loose, Changes, Looks, Cycles}

-- whether the number is that of an operator
abbrev pub is_operator : ℕ → Bool
is_operator caller = nat_le 1 caller && nat_le caller 8

-- whether the operator of a line, where it has one, is one
abbrev pub has_operator : StepLine → Bool
has_operator (line.Cycle count) = true
has_operator (line.Look caller) = is_operator caller
has_operator (line.Begins caller start op) = is_operator caller
has_operator (line.Joins op) = true

-- what a row says by itself, or the first why, in this order, for which it says nothing
unfoldable pub line_of : List (List ℕ) → Result StepLine StepWhy
line_of row = do
  form ← ok_or (form_of row) Word
  fields ← where_holds (has_fields form (length row)) row Fields
  said ← ok_or (said_as form fields) Number
  where_holds (has_operator said) said Operator

-- whether a line begins a change
abbrev pub begins : StepLine → Bool
begins (line.Cycle count) = false
begins (line.Look caller) = false
begins (line.Begins caller start op) = true
begins (line.Joins op) = false

-- whether a line adds an operation to a change
abbrev pub joins : StepLine → Bool
joins (line.Cycle count) = false
joins (line.Look caller) = false
joins (line.Begins caller start op) = false
joins (line.Joins op) = true

-- whether a line is of a change: it begins one or adds to one
abbrev pub is_of_change : StepLine → Bool
is_of_change (line.Cycle count) = false
is_of_change (line.Look caller) = false
is_of_change (line.Begins caller start op) = true
is_of_change (line.Joins op) = true

-- whether a line is a look
abbrev pub looks : StepLine → Bool
looks (line.Cycle count) = false
looks (line.Look caller) = true
looks (line.Begins caller start op) = false
looks (line.Joins op) = false

-- how many cycles a line runs
abbrev pub count_in : StepLine → ℕ
count_in (line.Cycle count) = count
count_in (line.Look caller) = 0
count_in (line.Begins caller start op) = 0
count_in (line.Joins op) = 0

-- whether the line directly above is of a change; where there is none, it is not
abbrev pub ends_in_change : List StepLine → Bool
ends_in_change above = unwrap_or (option_map is_of_change (slice_get above (length above - 1))) false

-- a line that may stand below these: one that adds to a change stands directly below a line of a change, and there are
-- at most 1,000 changes, 1,000 looks and 20,000 cycles
abbrev pub below : List StepLine → StepLine → Result StepLine StepWhy
below above (line.Cycle count) =
    where_holds (nat_le (sum_by count_in above + count) most_cycles) (line.Cycle count) Cycles
below above (line.Look caller) = where_holds (nat_lt (count_by looks above) 1000) (line.Look caller) Looks
below above (line.Begins caller start op) =
    where_holds (nat_lt (count_by begins above) 1000) (line.Begins caller start op) Changes
below above (line.Joins op) = where_holds (ends_in_change above) (line.Joins op) Loose

-- what a row says below the lines of the rows above it, or the first why for which it may not stand there
unfoldable pub meaning : List StepLine → List (List ℕ) → Result StepLine StepWhy
meaning above row = line_of row >>= below above
