use Rattle.std.proofs.Common.{◌≡◌, ◌++◌, ◌∙◌, ap, rules, sym}
use Rattle.fttcan_top.proofs.StreamedLemmas.{tail-told}
use Rattle.fttcan_top.proofs.work.tail_of.Goals as goal

pub returns-clause-log : goal.returns-clause-log
returns-clause-log c =
    let found = c.in_ok-run.field-0 in
    let count : c.from-count.result ≡ c.args.count = search rules in
    rw (c.status_when.ensures.status, c.all_accepted-accepted.ensures.test)
    (tail-told c.args.job.now c.args.report found.run c.in_ok-run.ensures.kept c.args.count found.rows.items c.in_ok-behind.behind.items
    c.extend_from_slice.new.self.items
    (rw (sym c.as_slice-steps.ensures.list, sym c.as_slice-requests.ensures.list, sym count) c.in_ok-run.ensures.tail)
    (rw (sym c.as_slice-owners.ensures.list, sym c.as_slice-requests.ensures.list) c.in_ok-behind.ensures.report)
    (c.in_ok-extend_from_slice.ensures.items ∙ ap (λ l. found.rows.items ++ l) c.as_slice.ensures.value))
