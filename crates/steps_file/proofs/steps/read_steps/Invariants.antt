-- The tally and the draft so far are those of the rows that were read.
use Rattle.text_fields.specs.RecordReading.{bytes_left}
use Rattle.steps_file.proofs.StepsReading.{ReadsSteps}
use Rattle.steps_file.proofs.steps.read_steps.Given as goal

abbrev pub invariant-loop-draft : goal.invariant-loop-draft
invariant-loop-draft l = ReadsSteps l.fn.bytes l.reader l.number l.tally l.draft

abbrev pub decreases-loop-draft : goal.decreases-loop-draft
decreases-loop-draft l = bytes_left l.reader
