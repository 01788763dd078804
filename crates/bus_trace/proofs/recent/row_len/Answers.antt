use Rattle.std.proofs.Common.{◌≡◌, ◌+◌, suc, rules, arith, get_or}
use Rattle.bus_trace.proofs.RowLemmas.{first_row, only_row}
use Rattle.bus_trace.proofs.recent.row_len.Goals as goal

pub returns-then-byte-eq10-clause-first : goal.returns-then-byte-eq10-clause-first
returns-then-byte-eq10-clause-first c =
    let next : c.loop-place.place + 1 ≡ suc c.loop-place.place = omega arith in
    let feed : get_or c.args.text.now c.loop-place.place 0 ≡ 10 = search rules in
    rw next (first_row c.args.text.now c.loop-place.place c.loop-place-test.true feed c.loop-place.invariant)

pub returns-clause-first : goal.returns-clause-first
returns-clause-first c = only_row c.args.text.now (search rules) (λ k below. c.loop-place.invariant k (omega (arith, c.loop-place-test.false)))
