-- The lines for a file that is refused.
use Rattle.std.specs.Prelude.{ℕ, List, ◌++◌, codes}
use Rattle.std.specs.Fmt.{decimal}
use Rattle.system_file.specs.SystemText.{system_fault_line}
use Rattle.steps_file.specs.StepText.{text_of as steps_line}
use Rattle.requests_file.specs.RequestText.{text_of as requests_line}
use Rattle.elastic.specs.WishText.{text_of as wishes_line}
use Rattle.sporadic_poll.specs.StreamText.{text_of as streams_line}
use Rattle.command_words.specs.Words.{limit_of, source_word}
use Rattle.command_words.specs.declared.table.Source.{Source}
use Rattle.asked_files.specs.declared.stopping.Refusal.{Refusal}

-- the line for a file that is longer than its limit
abbrev pub length_line : Source → List ℕ
length_line source = source_word source ++ codes ": longer than " ++ decimal (limit_of source) ++ codes " bytes\n"

-- the line for a file that is refused
abbrev pub refusal_line : Refusal → List ℕ
refusal_line (Refusal.TooLong source) = length_line source
refusal_line (Refusal.System fault) = system_fault_line fault
refusal_line (Refusal.Steps fault) = steps_line fault
refusal_line (Refusal.Requests fault) = requests_line fault
refusal_line (Refusal.Plan line) = codes "plan: line " ++ decimal line ++ codes "\n"
refusal_line Refusal.LaterPlan = codes "plan: start\n"
refusal_line (Refusal.Wishes fault) = wishes_line fault
refusal_line (Refusal.Log number) = codes "log: row " ++ decimal number ++ codes "\n"
refusal_line (Refusal.Streams fault) = streams_line fault
