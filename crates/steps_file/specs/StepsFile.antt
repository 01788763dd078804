-- What a steps file means: the steps that the lines of its rows say, or its first row that is none.
use Rattle.std.specs.Prelude.{◌≡◌, ℕ, ◌^◌, ◌<◌, ◌≤◌, Bool, true, false, List, [], ◌∷◌}
use Rattle.std.specs.Prelude.{length, map, count_by, sum_by, Result, Ok, Err, All, ⊤}
use Rattle.std.specs.List.{flat_map}
use Rattle.profile.specs.Limits.{most_cycles}
use Rattle.requirement_table.specs.declared.entries.Entry.{Entry}
use Rattle.change_protocol.specs.declared.operations.Op.{Op}
use Rattle.change_protocol.specs.declared.operations.Op.TheVariants.{Add, Remove, Change}
use Rattle.change_protocol.specs.declared.operations.Act.{Act}
use Rattle.change_protocol.specs.declared.operations.Act.TheVariants as act
use Rattle.text_fields.specs.CsvRows.{rows_of}
use Rattle.text_fields.specs.RowByRow.{AreItems, IsFirstFault, Faulty, items_below}
use Rattle.steps_file.specs.StepRow.{meaning}
use Rattle.steps_file.specs.declared.step_rows.StepLine.{StepLine}
use Rattle.steps_file.specs.declared.step_rows.StepLine.TheVariants as line
use Rattle.steps_file.specs.declared.step_fault.StepWhy.{StepWhy}
use Rattle.steps_file.specs.declared.step_fault.StepFault.{StepFault}
use Rattle.steps_file.specs.declared.step_fault.StepFault.TheVariants.{Row, Memory}
use Rattle.steps_file.specs.declared.steps.Step.{Step}
use Rattle.steps_file.specs.declared.steps.Step.TheVariants as step

-- the lines that say a change: one for each operation, of which the first begins it
abbrev pub lines_of_change : ℕ → ℕ → List Op → List StepLine
lines_of_change caller start [] = []
lines_of_change caller start (op ∷ ops) = line.Begins caller start op ∷ map line.Joins ops

-- the lines that say a step
abbrev pub lines_of : Step → List StepLine
lines_of (step.Cycle count) = line.Cycle count ∷ []
lines_of (step.Act caller act.Look) = line.Look caller ∷ []
lines_of (step.Act caller (act.Ask change)) = lines_of_change caller change.start change.ops

-- a change of a step has an operation
abbrev pub HasOperation : Step → Type 0
HasOperation (step.Cycle count) = ⊤
HasOperation (step.Act caller act.Look) = ⊤
HasOperation (step.Act caller (act.Ask change)) = 1 ≤ length change.ops

-- these lines say these steps: the lines of the steps, one step after the other, are the lines
pub record Say (lines : List StepLine) (steps : List Step) : Type 0 where
  pub whole : flat_map lines_of steps ≡ lines
  pub each : All HasOperation steps

-- each row says a line, and the lines of all rows say these steps
pub record AreSteps (rows : List (List (List ℕ))) (steps : List Step) : Type 0 where
  pub lines : List StepLine
  pub read : AreItems meaning rows lines
  pub say : Say lines steps

-- the fault that rows give; want of memory says nothing of them
abbrev pub IsStepFault : List (List (List ℕ)) → StepFault → Type 0
IsStepFault rows (Row number why) = IsFirstFault meaning rows number why
IsStepFault rows Memory = ⊤

-- the operations that lines add to a change directly above them
abbrev pub joined : List StepLine → List Op
joined [] = []
joined (line.Cycle count ∷ lines) = []
joined (line.Look caller ∷ lines) = []
joined (line.Begins caller start op ∷ lines) = []
joined (line.Joins op ∷ lines) = op ∷ joined lines

-- the steps that lines say
abbrev pub steps_said : List StepLine → List Step
steps_said [] = []
steps_said (line.Cycle count ∷ lines) = step.Cycle count ∷ steps_said lines
steps_said (line.Look caller ∷ lines) = step.Act caller act.Look ∷ steps_said lines
steps_said (line.Begins caller start op ∷ lines) =
    step.Act caller (act.Ask (record { start = start; ops = op ∷ joined lines })) ∷ steps_said lines
steps_said (line.Joins op ∷ lines) = steps_said lines

-- the steps of lines, or the fault of a row
abbrev pub steps_or_fault : Result (List StepLine) (Faulty StepWhy) → Result (List Step) StepFault
steps_or_fault (Ok lines) = Ok (steps_said lines)
steps_or_fault (Err fault) = Err (Row fault.number fault.why)

-- the steps of rows, or their fault
unfoldable pub steps_of_rows : List (List (List ℕ)) → Result (List Step) StepFault
steps_of_rows rows = steps_or_fault (items_below meaning [] rows)

-- the steps of a file, or its fault
unfoldable pub steps_of : List ℕ → Result (List Step) StepFault
steps_of bytes = steps_of_rows (rows_of bytes)

-- what holds of the steps of each file

-- an entry whose numbers fit their types
pub record FitsEntry (entry : Entry) : Type 0 where
  pub slot : entry.slot < 2 ^ 8
  pub node : entry.node < 2 ^ 8
  pub length : entry.length < 2 ^ 8
  pub phase : entry.phase < 2 ^ 16
  pub period : entry.period < 2 ^ 16
  pub deadline : entry.deadline < 2 ^ 16
  pub priority : entry.priority < 2 ^ 8

-- an operation whose numbers fit their types
abbrev pub FitsOperation : Op → Type 0
FitsOperation (Add entry) = FitsEntry entry
FitsOperation (Remove slot) = slot < 2 ^ 8
FitsOperation (Change entry) = FitsEntry entry

-- a change of at least one operation whose numbers fit their types
pub record IsAskedChange (start : ℕ) (ops : List Op) : Type 0 where
  pub early : start < 2 ^ 64
  pub some : 1 ≤ length ops
  pub each : All FitsOperation ops

-- what an operator may ask
abbrev pub IsAct : Act → Type 0
IsAct act.Look = ⊤
IsAct (act.Ask change) = IsAskedChange change.start change.ops

-- a step with each number in its range
abbrev pub IsStep : Step → Type 0
IsStep (step.Cycle count) = count ≤ most_cycles
IsStep (step.Act caller asked) = (1 ≤ caller) × (caller ≤ 8) × IsAct asked

-- whether a step is a change
abbrev pub is_change : Step → Bool
is_change (step.Cycle count) = false
is_change (step.Act caller act.Look) = false
is_change (step.Act caller (act.Ask change)) = true

-- whether a step is a look
abbrev pub is_look : Step → Bool
is_look (step.Cycle count) = false
is_look (step.Act caller act.Look) = true
is_look (step.Act caller (act.Ask change)) = false

-- how many cycles a step runs
abbrev pub count_of : Step → ℕ
count_of (step.Cycle count) = count
count_of (step.Act caller asked) = 0

-- the steps of a file: each in its ranges, at most 1,000 changes, 1,000 looks and 20,000 cycles in all
pub record AreLegalSteps (steps : List Step) : Type 0 where
  pub each : All IsStep steps
  pub changes : count_by is_change steps ≤ 1000
  pub looks : count_by is_look steps ≤ 1000
  pub cycles : sum_by count_of steps ≤ most_cycles
