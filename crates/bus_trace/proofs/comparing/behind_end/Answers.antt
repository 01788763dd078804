use Rattle.std.proofs.Common.{◌∙◌, sym, ap}
use Rattle.std.specs.Prelude.{◌++◌, ◌∷◌, []}
use Rattle.std.proofs.lemmas.List.Elements.{All-cons, All-nil}
use Rattle.log_reader.specs.Row.{IsLogRow}
use Rattle.log_reader.specs.declared.row.LogRow.TheVariants as row
use Rattle.bus_trace.specs.Log.{end_row}
use Rattle.bus_trace.proofs.TextBegins.{begins}
use Rattle.bus_trace.proofs.RowsTold.{end-told}
use Rattle.bus_trace.proofs.comparing.behind_end.Goals as goal

pub returns-in-Ok : goal.returns-in-Ok
returns-in-Ok c =
    let last = row.End c.args.next in
    record {
      row = begins (λ rest. rest.now) c.args.text.now c.as_slice.result.now (last ∷ [])
          (All-cons IsLogRow last [] c.put_end_row.ensures.in_range (All-nil IsLogRow))
          (c.as_slice.ensures.value ∙ c.in-Ok.ensures.all ∙ ap (λ l. l ++ end_row c.args.next) c.clear.ensures.items ∙ sym (end-told c.args.next))
          c.strip_prefix.result c.strip_prefix.ensures.rest;
    }
