use Rattle.std.proofs.Common.{◌++◌, ap, ◌∙◌, arith}
use Rattle.std.proofs.lemmas.List.{drop_all}
use Rattle.log_reader.specs.Row.{opened_row, row_text}
use Rattle.log_reader.specs.declared.row.LogRow.TheVariants.{Frame}
use Rattle.bus_trace.proofs.rows.lone_rows.Goals as goal

pub returns-clause-rows : goal.returns-clause-rows
returns-clause-rows c =
    let sent = c.args.sent.now in
    c.row_from.ensures.bytes ∙ c.put_open-place.ensures.row
    ∙ ap (λ l. row_text (opened_row c.args.opened.now) ++ l)
    (c.put_lone_frame-place.ensures.row ∙ ap (λ l. row_text (Frame sent) ++ l) (drop_all 128 c.args.row.now (omega (arith, c.told-row))))
