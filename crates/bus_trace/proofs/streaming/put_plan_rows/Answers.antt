use Rattle.std.proofs.Common.{◌+◌, length, ap, refl, rules, subst, arith}
use Rattle.std.proofs.lemmas.List.{length-append}
use Rattle.ftt_io.specs.Puts.{Puts, PutsPrefix}
use Rattle.ftt_io.proofs.Shared.{PutsUpTo-next, PutsUpTo-stops}
use Rattle.bus_trace.specs.LogRows.{plan_told}
use Rattle.log_reader.specs.Row.{text_of_rows}
use Rattle.bus_trace.proofs.Plans.{plans-joined, plans-split}
use Rattle.bus_trace.proofs.streaming.put_plan_rows.Goals as goal

pub returns-in_err-write_all-clause-prefix : goal.returns-in_err-write_all-clause-prefix
returns-in_err-write_all-clause-prefix g c =
    let first = c.loop-left.first in
    let some = c.split_at.result.0.now in
    let later = c.split_at.result.1.now in
    let next = first + length some in
    let all = PutsUpTo-stops (text_of_rows (plan_told first some)) (text_of_rows (plan_told next later)) c.loop-left.invariant.put
    (plans-split first next c.loop-left.left.now some later c.split_at.ensures.by_index.0 refl)
    (subst (PutsPrefix (g.O.Sink.told_bytes c.loop-left.out) (g.O.Sink.told_bytes c.write_all.new.sink)) c.plan_rows.ensures.rows c.in_err-write_all.ensures.prefix) in
    search (rules, all)

pub loop-left-preserved : goal.loop-left-preserved
loop-left-preserved g c =
    let first = c.loop-left.first in
    let left = c.loop-left.left.now in
    let some = c.split_at.result.0.now in
    let later = c.split_at.result.1.now in
    let next = first + length some in
    let is = c.split_at.ensures.by_index.0 in
    record {
      put = PutsUpTo-next (text_of_rows (plan_told first some)) (text_of_rows (plan_told next later)) c.loop-left.invariant.put (plans-split first next left some later is refl)
          (subst (Puts (g.O.Sink.told_bytes c.loop-left.out) (g.O.Sink.told_bytes c.write_all.new.sink)) c.plan_rows.ensures.rows c.in_ok-write_all.ensures.all);
      told = λ rest. c.loop-left.invariant.told (plans-joined first next left some later is refl c.plan_rows.ensures.in_range rest);
      faults = omega (arith, c.in_ok-write_all.ensures.faults_never_fall, c.loop-left.invariant.faults);
      all = omega (arith, c.loop-left.invariant.all, ap length is, length-append some later);
    }
