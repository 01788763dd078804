-- The forms of the rows of a steps file: what the words at the start of a row say, and how many fields it then has.
use Rattle.std.specs.Prelude.{ℕ, ◌+◌, ◌==◌}
use Rattle.std.specs.Prelude.{Bool, false, if◌then◌else◌, List, Option, Some, None, option_map, option_and_then, codes}
use Rattle.std.specs.Str.{bytes_eq}
use Rattle.csv.specs.Records.{field_at}
use Rattle.steps_file.specs.declared.step_rows.StepVerb.{StepVerb}
use Rattle.steps_file.specs.declared.step_rows.StepVerb.TheVariants.{Add, Remove, Change}
use Rattle.steps_file.specs.declared.step_rows.Form.{Form}
use Rattle.steps_file.specs.declared.step_rows.Form.TheVariants.{Cycle, Look, Begins, Joins}

-- what an operation does, by its word
abbrev pub verb_of : List ℕ → Option StepVerb
verb_of word =
    if bytes_eq word (codes "add") then Some Add
    else if bytes_eq word (codes "remove") then Some Remove
    else if bytes_eq word (codes "change") then Some Change
    else None

-- the form of an `and` row, by its second field: where that is there, it has to be the word of an operation
abbrev pub joins_of : Option (List ℕ) → Option Form
joins_of None = Some (Joins None)
joins_of (Some word) = option_map (λ verb. Joins (Some verb)) (verb_of word)

-- the form of a row with this word in its first field
abbrev pub form_of_word : List (List ℕ) → List ℕ → Option Form
form_of_word row word =
    if bytes_eq word (codes "cycle") then Some Cycle
    else if bytes_eq word (codes "look") then Some Look
    else if bytes_eq word (codes "and") then joins_of (field_at row 1)
    else option_map Begins (verb_of word)

-- the form of a row
unfoldable pub form_of : List (List ℕ) → Option Form
form_of row = option_and_then (form_of_word row) (field_at row 0)

-- how many fields an operation has: SLOT, NODE, LENGTH, PHASE, PERIOD, DEADLINE and PRIORITY, or SLOT alone
abbrev pub fields_of_verb : StepVerb → ℕ
fields_of_verb Add = 7
fields_of_verb Remove = 1
fields_of_verb Change = 7

-- whether a row of this form has so many fields: `cycle,COUNT`, `look,OPERATOR`, a word with OPERATOR, START and an
-- operation, or `and` with a word and an operation
abbrev pub has_fields : Form → ℕ → Bool
has_fields Cycle fields = fields == 2
has_fields Look fields = fields == 2
has_fields (Begins verb) fields = fields == 3 + fields_of_verb verb
has_fields (Joins (Some verb)) fields = fields == 2 + fields_of_verb verb
has_fields (Joins None) fields = false
