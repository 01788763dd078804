use Rattle.std.proofs.Common.{◌≡◌, length, sym, ◌∙◌, subst, arith, rules}
use Rattle.std.specs.Prelude.{OnOk, OnErr}
use Rattle.std.proofs.lemmas.Result.{on_ok_weaker}
use Rattle.ftt_io.specs.Puts.{Puts, PutsPrefix}
use Rattle.log_reader.specs.Row.{opened_row}
use Rattle.bus_trace.proofs.PutRows.{cycle-all, cycle-prefix, cycle-stopped, cycle-told, lone-rows, lone-told, ok-always}
use Rattle.bus_trace.proofs.streaming.put_cycle.Goals as goal

pub returns-in-len1-clause-all : goal.returns-in-len1-clause-all
returns-in-len1-clause-all g c =
    let one : length c.args.frames.now ≡ 1 = omega (arith, c.in-len1.len_at_least, c.in-len1.len_below) in
    let opened = opened_row c.args.opened.now in
    subst (λ bytes. OnOk c.write_all.result (Puts (g.O.Sink.told_bytes c.args.out.now) (g.O.Sink.told_bytes c.write_all.new.sink) bytes))
    (c.lone_rows.ensures.rows ∙ lone-rows opened c.args.frames.now _ c.sent-item.result one (sym c.sent-item.is)) c.write_all.ensures.all

pub returns-in-len1-clause-prefix : goal.returns-in-len1-clause-prefix
returns-in-len1-clause-prefix g c =
    let one : length c.args.frames.now ≡ 1 = omega (arith, c.in-len1.len_at_least, c.in-len1.len_below) in
    let opened = opened_row c.args.opened.now in
    subst (λ bytes. OnErr c.write_all.result (PutsPrefix (g.O.Sink.told_bytes c.args.out.now) (g.O.Sink.told_bytes c.write_all.new.sink) bytes))
    (c.lone_rows.ensures.rows ∙ lone-rows opened c.args.frames.now _ c.sent-item.result one (sym c.sent-item.is)) c.write_all.ensures.prefix

pub returns-in-len1-clause-in_range : goal.returns-in-len1-clause-in_range
returns-in-len1-clause-in_range g c =
    let one : length c.args.frames.now ≡ 1 = omega (arith, c.in-len1.len_at_least, c.in-len1.len_below) in
    ok-always c.write_all.result
    (lone-told (opened_row c.args.opened.now) c.args.frames.now _ c.sent-item.result one (sym c.sent-item.is) c.lone_rows.ensures.in_range)

pub returns-in_err-write_all-clause-prefix : goal.returns-in_err-write_all-clause-prefix
returns-in_err-write_all-clause-prefix g c =
    let opened = opened_row c.args.opened.now in
    let all = cycle-stopped opened c.opened_rows.result.now c.args.frames.now c.split_at.result.0.now c.split_at.result.1.now c.split_at.ensures.by_index.0
    c.opened_rows.ensures.rows c.in_err-write_all.ensures.prefix in
    search (rules, all)

pub returns-clause-all : goal.returns-clause-all
returns-clause-all g c =
    let opened = opened_row c.args.opened.now in
    cycle-all opened c.opened_rows.result.now c.args.frames.now c.split_at.result.0.now c.split_at.result.1.now c.split_at.ensures.by_index.0
    c.opened_rows.ensures.rows c.put_frame_rows.result _ _ _ c.in_ok-write_all.ensures.all c.put_frame_rows.ensures.all

pub returns-clause-prefix : goal.returns-clause-prefix
returns-clause-prefix g c =
    let opened = opened_row c.args.opened.now in
    cycle-prefix opened c.opened_rows.result.now c.args.frames.now c.split_at.result.0.now c.split_at.result.1.now c.split_at.ensures.by_index.0
    c.opened_rows.ensures.rows c.put_frame_rows.result _ _ _ c.in_ok-write_all.ensures.all c.put_frame_rows.ensures.prefix

pub returns-clause-in_range : goal.returns-clause-in_range
returns-clause-in_range g c =
    on_ok_weaker c.put_frame_rows.result
    (cycle-told (opened_row c.args.opened.now) c.args.frames.now c.split_at.result.0.now c.split_at.result.1.now c.split_at.ensures.by_index.0 c.opened_rows.ensures.in_range)
    c.put_frame_rows.ensures.in_range
