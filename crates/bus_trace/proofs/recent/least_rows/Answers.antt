use Rattle.std.proofs.Common.{◌≤◌, ◌+◌, length, subst, sym}
use Rattle.master_core.specs.declared.event.Event.TheVariants.{Submit}
use Rattle.bus_trace.specs.EventRows.{rows_of_event}
use Rattle.bus_trace.specs.LastRows.{rows_in}
use Rattle.bus_trace.proofs.RowCounts.{look-rows, open-rows, submit-rows}
use Rattle.bus_trace.proofs.recent.least_rows.Goals as goal

pub returns-in-Submit : goal.returns-in-Submit
returns-in-Submit c =
    let this = c.in-Submit in
    let event = Submit this.caller this.change this.from this.verdict this.trail in
    let some = submit-rows this.caller this.change this.from this.verdict this.trail c.args.frames.now in
    let counted = subst (λ masks. 1 + length masks ≤ length (rows_in (rows_of_event event c.args.frames.now))) (sym c.as_slice.ensures.list) some in
    record { rows = rw c.in-Submit.is counted }

pub returns-in-Look : goal.returns-in-Look
returns-in-Look c = record { rows = rw c.in-Look.is (look-rows c.in-Look.caller c.in-Look.next c.args.frames.now) }

pub returns-in-Open : goal.returns-in-Open
returns-in-Open c = record { rows = rw c.in-Open.is (open-rows c.in-Open.cycle c.in-Open.mask c.args.frames.now) }
