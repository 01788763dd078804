-- The rows so far.
use Rattle.std.proofs.Common.{◌≡◌, ◌++◌, take}
use Rattle.std.specs.String.{string_bytes}
use Rattle.elastic.specs.ChoiceRows.{tried_rows}
use Rattle.elastic.proofs.choice_rows.push_all_tried.Given as goal

abbrev pub invariant-loop-number : goal.invariant-loop-number
invariant-loop-number l =
    string_bytes l.text ≡ string_bytes l.initial.text ++ tried_rows 0 (take l.number l.verdicts)
