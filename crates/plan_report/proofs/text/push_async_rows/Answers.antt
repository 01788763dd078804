use Rattle.std.proofs.Common.{◌++◌, sym, ap, ◌∙◌}
use Rattle.std.specs.String.{string_bytes}
use Rattle.std.proofs.lemmas.List.{append-nil}
use Rattle.plan_report.specs.Report.{async_row}
use Rattle.plan_report.proofs.RowByRow.{async-next, owned-none}
use Rattle.plan_report.proofs.text.push_async_rows.Goals as goal

pub loop-id-init : goal.loop-id-init
loop-id-init c =
    let row = async_row c.args.trace.now c.args.requests.now in
    sym (ap (λ l. string_bytes c.args.text.now ++ l) (owned-none c.args.owners.now row) ∙ append-nil _)

pub loop-id-preserved : goal.loop-id-preserved
loop-id-preserved c =
    async-next c.args.trace.now c.args.owners.now c.args.requests.now c.in_ok-owned.owned.items c.in_ok-sent.sent.items c.in_ok-asked.asked.items
    c.loop-id.id c.from-place.result c.index.result.now c.index-in-loop-id.result.now c.index-in-loop-id-2.result.now
    (string_bytes c.args.text.now) (string_bytes c.loop-id.text) (string_bytes c.push_owned_row.new.text)
    c.loop-id-test.true c.from-place.ensures
    c.in_ok-owned.ensures.length c.in_ok-owned.ensures.owned c.in_ok-sent.ensures.length c.in_ok-sent.ensures.sent
    c.in_ok-asked.ensures.length c.in_ok-asked.ensures.asked
    c.index.ensures c.index-in-loop-id.ensures c.index-in-loop-id-2.ensures
    c.loop-id.invariant c.in_ok-push_owned_row.ensures.ok
