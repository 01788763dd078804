use Rattle.std.proofs.Common.{ap, ◌∙◌}
use Rattle.std.specs.String.{string_bytes}
use Rattle.plan_report.specs.Opened.{load_of, opened_widths}
use Rattle.plan_report.proofs.Openings.{widths-opened}
use Rattle.plan_report.proofs.RowByRow.{whole}
use Rattle.plan_report.proofs.text.report.Goals as goal

pub returns : goal.returns
returns c =
    let history = c.args.master.now.history in
    let legal = c.history-history.ensures.legal in
    let list = c.history-history.ensures.list in
    let placed = c.placed-placed.ensures.list in
    let load = c.opened_load.ensures.load
    ∙ ap (λ h. load_of (opened_widths c.placed-placed.result.now 0 h)) list
    ∙ ap (λ p. load_of (opened_widths p 0 history)) placed
    ∙ ap load_of (widths-opened c.args.master.now.rules history legal (c.opened_cycles.ensures.instances c.args.master.now.rules history legal)) in
    record {
      text = ap (λ v. v.items) c.into_bytes.ensures.value
          ∙ whole history c.args.trace.now c.args.owners.now c.args.requests.now c.placed-placed.result.now c.opened_load.result
          (string_bytes c.new-text.result) (string_bytes c.push_entry_rows.new.text) (string_bytes c.push_async_rows.new.text)
          (string_bytes c.push_load_row.new.text)
          c.new-text.ensures.bytes c.in_ok-push_entry_rows.ensures.ok c.in_ok-push_async_rows.ensures.ok c.in_ok-push_load_row.ensures.ok placed load;
    }
