-- What the fields of a row of a steps file say, where each is a number in its range.
use Rattle.std.specs.Prelude.{ℕ, ◌+◌, ◌-◌, ◌^◌, List, Option, Some, None, option_map}
use Rattle.profile.specs.Limits.{most_cycles}
use Rattle.requirement_table.specs.declared.entries.Entry.{Entry}
use Rattle.change_protocol.specs.declared.operations.Op.{Op}
use Rattle.change_protocol.specs.declared.operations.Op.TheVariants as operation
use Rattle.text_fields.specs.CsvRows.{number_at}
use Rattle.text_fields.specs.Optional.{◌>>=◌}
use Rattle.steps_file.specs.declared.step_rows.StepVerb.{StepVerb}
use Rattle.steps_file.specs.declared.step_rows.StepVerb.TheVariants.{Add, Remove, Change}
use Rattle.steps_file.specs.declared.step_rows.Form.{Form}
use Rattle.steps_file.specs.declared.step_rows.Form.TheVariants as form
use Rattle.steps_file.specs.declared.step_rows.StepLine.{StepLine}
use Rattle.steps_file.specs.declared.step_rows.StepLine.TheVariants as line

-- the entry that the fields from this place on describe: SLOT, NODE, LENGTH, PHASE, PERIOD, DEADLINE and PRIORITY
abbrev pub entry_at : List (List ℕ) → ℕ → Option Entry
entry_at row place = do
  slot ← number_at row place 0 255
  node ← number_at row (place + 1) 0 255
  len ← number_at row (place + 2) 0 255
  phase ← number_at row (place + 3) 0 65535
  period ← number_at row (place + 4) 0 65535
  deadline ← number_at row (place + 5) 0 65535
  priority ← number_at row (place + 6) 0 255
  Some (record {
    slot = slot;
    node = node;
    length = len;
    phase = phase;
    period = period;
    deadline = deadline;
    priority = priority;
  })

-- the operation that the fields from this place on describe
abbrev pub operation_at : StepVerb → List (List ℕ) → ℕ → Option Op
operation_at Add row place = option_map operation.Add (entry_at row place)
operation_at Remove row place = option_map operation.Remove (number_at row place 0 255)
operation_at Change row place = option_map operation.Change (entry_at row place)

-- the row `add`, `remove` or `change`, with OPERATOR, START and the operation
abbrev pub beginning : StepVerb → List (List ℕ) → Option StepLine
beginning verb row = do
  caller ← number_at row 1 0 255
  start ← number_at row 2 0 (2 ^ 64 - 1)
  op ← operation_at verb row 3
  Some (line.Begins caller start op)

-- what a row of this form says
unfoldable pub said_as : Form → List (List ℕ) → Option StepLine
said_as form.Cycle row = option_map line.Cycle (number_at row 1 0 most_cycles)
said_as form.Look row = option_map line.Look (number_at row 1 0 255)
said_as (form.Begins verb) row = beginning verb row
said_as (form.Joins (Some verb)) row = option_map line.Joins (operation_at verb row 2)
said_as (form.Joins None) row = None
