use Rattle.std.proofs.Common.{◌≡◌, string_bytes, subst}
use Rattle.std.specs.Prelude.{IfOk}
use Rattle.elastic.specs.ChoiceRows.{none_rows}
use Rattle.fttcan_top.proofs.choosing.fault_rows.Goals as goal

pub returns-in-TooMany : goal.returns-in-TooMany
returns-in-TooMany c = record { rows = rw c.in-TooMany.is c.too_many_row.ensures.row }

pub returns-in-NoneFits : goal.returns-in-NoneFits
returns-in-NoneFits c =
    let told = subst (λ verdicts. IfOk c.none_rows.result (λ text. string_bytes text ≡ none_rows verdicts)) c.as_slice.ensures.list c.none_rows.ensures.rows in
    record { rows = rw c.in-NoneFits.is told }

pub returns-in-Memory : goal.returns-in-Memory
returns-in-Memory c = record { rows = tt }
