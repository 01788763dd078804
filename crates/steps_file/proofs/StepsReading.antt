-- How a reader stands between two rows of a steps file.
use Rattle.std.proofs.Common.{◌≡◌, ℕ, List, length, map}
use Rattle.text_fields.specs.RecordReading.{ReadsRecords}
use Rattle.text_fields.specs.declared.records.RecordReader.{RecordReader}
use Rattle.text_fields.specs.CsvRows.{trimmed}
use Rattle.text_fields.specs.RowByRow.{AreItems}
use Rattle.steps_file.specs.StepRow.{meaning}
use Rattle.steps_file.specs.StepsReading.{Counts, Drafts}
use Rattle.steps_file.specs.declared.step_rows.StepLine.{StepLine}
use Rattle.steps_file.specs.declared.steps.Draft.{Draft}
use Rattle.steps_file.specs.declared.steps.StepTally.{StepTally}

-- the tally and the draft are those of the rows that were read, and the number is how many they are
pub record ReadsSteps (bytes : List ℕ) (reader : RecordReader) (number : ℕ) (tally : StepTally) (draft : Draft) : Type 0 where
  pub before : List (List (List ℕ))
  pub lines : List StepLine
  pub reads : ReadsRecords bytes reader before
  pub are : AreItems meaning (map (map trimmed) before) lines
  pub counts : Counts lines tally
  pub drafts : Drafts lines draft
  pub numbered : number ≡ length before
