use Rattle.std.proofs.Common.{subst, rules}
use Rattle.std.specs.Prelude.{OnOk, OnErr}
use Rattle.ftt_io.specs.Puts.{Puts, PutsPrefix}
use Rattle.ftt_io.proofs.Shared.{PutsPrefix-longer}
use Rattle.bus_trace.specs.LogRows.{plan_told}
use Rattle.log_reader.specs.Row.{text_of_rows}
use Rattle.bus_trace.proofs.PutRows.{all-behind, prefix-behind}
use Rattle.bus_trace.proofs.streaming.put_rows.Goals as goal

pub returns-in_err-write_all-in-Submit-clause-prefix : goal.returns-in_err-write_all-in-Submit-clause-prefix
returns-in_err-write_all-in-Submit-clause-prefix g c =
    let row = c.submit_row.ensures.row in
    let front = subst (PutsPrefix (g.O.Sink.told_bytes c.args.out.now) (g.O.Sink.told_bytes c.write_all.new.sink)) row c.in_err-write_all-in-Submit.ensures.prefix in
    let all = PutsPrefix-longer (text_of_rows (plan_told c.in-Submit.from c.in-Submit.trail)) front in
    search (rules, all)

pub returns-in_ok-write_all-in-Submit-clause-all : goal.returns-in_ok-write_all-in-Submit-clause-all
returns-in_ok-write_all-in-Submit-clause-all g c =
    let row = c.submit_row.ensures.row in
    rw c.in-Submit.is (all-behind c.put_plan_rows.result _ _ _ _ _
    (subst (Puts (g.O.Sink.told_bytes c.args.out.now) (g.O.Sink.told_bytes c.write_all.new.sink)) row c.in_ok-write_all-in-Submit.ensures.all)
    (subst (λ masks. OnOk c.put_plan_rows.result (Puts (g.O.Sink.told_bytes c.write_all.new.sink) (g.O.Sink.told_bytes c.put_plan_rows.new.out) (text_of_rows (plan_told c.in-Submit.from masks)))) c.as_slice.ensures.list c.put_plan_rows.ensures.all))

pub returns-in_ok-write_all-in-Submit-clause-prefix : goal.returns-in_ok-write_all-in-Submit-clause-prefix
returns-in_ok-write_all-in-Submit-clause-prefix g c =
    let row = c.submit_row.ensures.row in
    rw c.in-Submit.is (prefix-behind c.put_plan_rows.result _ _ _ _ _
    (subst (Puts (g.O.Sink.told_bytes c.args.out.now) (g.O.Sink.told_bytes c.write_all.new.sink)) row c.in_ok-write_all-in-Submit.ensures.all)
    (subst (λ masks. OnErr c.put_plan_rows.result (PutsPrefix (g.O.Sink.told_bytes c.write_all.new.sink) (g.O.Sink.told_bytes c.put_plan_rows.new.out) (text_of_rows (plan_told c.in-Submit.from masks)))) c.as_slice.ensures.list c.put_plan_rows.ensures.prefix))
