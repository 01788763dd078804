-- The rows that tell what is chosen of a wish, or why nothing is. Each row ends with one line feed; numbers are decimal
-- without leading zeros.
use Rattle.std.specs.Prelude.{◌≡◌, ℕ, ◌+◌, List, [], ◌∷◌, ◌++◌, codes, length}
use Rattle.std.specs.List.{flat_map}
use Rattle.std.specs.Fmt.{decimal}
use Rattle.admission.specs.declared.verdict.Verdict.{Verdict}
use Rattle.bus_trace.specs.Log.{verdict_fields}
use Rattle.elastic.specs.declared.choice.Choice.{Choice}
use Rattle.elastic.specs.declared.choice.ElasticFault.{ElasticFault}
use Rattle.elastic.specs.declared.choice.ElasticFault.TheVariants.{TooMany, NoneFits}

-- a period behind others
abbrev pub later_period : ℕ → List ℕ
later_period period = codes "," ++ decimal period

-- periods, with a comma between each two
unfoldable pub periods_text : List ℕ → List ℕ
periods_text [] = []
periods_text (first ∷ later) = decimal first ++ flat_map later_period later

-- the row of a choice: `choice,NUMBER,`, its periods, and `,FIRST,LENGTH`
abbrev pub choice_row : Choice → List ℕ
choice_row choice =
    codes "choice," ++ decimal choice.number ++ codes "," ++ periods_text choice.periods
    ++ codes "," ++ decimal choice.first ++ codes "," ++ decimal choice.length ++ codes "\n"

-- the row of a combination that is refused: `tried,NUMBER,VERDICT`, with the fields of a verdict in the log
abbrev pub tried_row : ℕ → Verdict → List ℕ
tried_row number verdict = codes "tried," ++ decimal number ++ codes "," ++ verdict_fields verdict ++ codes "\n"

-- the rows of combinations that are refused, of which the first has this number
abbrev pub tried_rows : ℕ → List Verdict → List ℕ
tried_rows number [] = []
tried_rows number (verdict ∷ later) = tried_row number verdict ++ tried_rows (number + 1) later

-- the rows where each combination is refused: `none,COUNT`, and those of the combinations in their order
abbrev pub none_rows : List Verdict → List ℕ
none_rows verdicts = codes "none," ++ decimal (length verdicts) ++ codes "\n" ++ tried_rows 0 verdicts

-- the row where there are too many combinations: `toomany,COUNT`
abbrev pub too_many_row : ℕ → List ℕ
too_many_row count = codes "toomany," ++ decimal count ++ codes "\n"

-- the rows that tell why nothing is chosen. Where an operation leaves no choice, or memory runs out, there are none
abbrev pub IsFaultText : ElasticFault → List ℕ → Type 0
IsFaultText (TooMany count) text = text ≡ too_many_row count
IsFaultText (NoneFits verdicts) text = text ≡ none_rows verdicts
IsFaultText _ text = ⊥
