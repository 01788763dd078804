use Rattle.std.proofs.Common.{◌∙◌, ap}
use Rattle.std.specs.Prelude.{◌++◌}
use Rattle.bus_trace.specs.EventRows.{rows_at}
use Rattle.bus_trace.proofs.TextBegins.{begins}
use Rattle.bus_trace.proofs.comparing.behind_event.Goals as goal

pub returns-in-Ok : goal.returns-in-Ok
returns-in-Ok c =
    let rows = rows_at c.args.width c.args.event.now c.args.frames.now in
    record {
      rows = begins (λ rest. rest.now) c.args.text.now c.as_slice.result.now _ (c.in-Ok.ensures.in_range)
          (c.as_slice.ensures.value ∙ c.in-Ok.ensures.all ∙ ap (λ l. l ++ rows) c.clear.ensures.items)
          c.strip_prefix.result c.strip_prefix.ensures.rest;
    }
