-- The line that says why a steps file is refused.
use Rattle.std.specs.Prelude.{ℕ, List, ◌++◌, codes}
use Rattle.std.specs.Fmt.{decimal}
use Rattle.steps_file.specs.declared.step_fault.StepWhy.{StepWhy}
use Rattle.steps_file.specs.declared.step_fault.StepWhy.TheVariants.{Word, Fields, Number, Operator}
use Rattle.steps_file.specs.declared.step_fault.StepWhy.TheVariants.{Loose, Changes, Looks, Cycles}
use Rattle.steps_file.specs.declared.step_fault.StepFault.{StepFault}
use Rattle.steps_file.specs.declared.step_fault.StepFault.TheVariants.{Row, Memory}

-- the word for a why
abbrev pub word_of : StepWhy → List ℕ
word_of Word = codes "word"
word_of Fields = codes "fields"
word_of Number = codes "number"
word_of Operator = codes "operator"
word_of Loose = codes "loose"
word_of Changes = codes "changes"
word_of Looks = codes "looks"
word_of Cycles = codes "cycles"

-- the line for the error sink
abbrev pub text_of : StepFault → List ℕ
text_of (Row number why) = codes "steps: row " ++ decimal number ++ codes " " ++ word_of why ++ codes "\n"
text_of Memory = codes "out of memory\n"
