use Rattle.std.proofs.Common.{map, rules, subst, arith}
use Rattle.ftt_io.specs.Puts.{Puts, PutsPrefix}
use Rattle.ftt_io.proofs.Shared.{PutsUpTo-next, PutsUpTo-stops}
use Rattle.log_reader.specs.Row.{text_of_rows}
use Rattle.log_reader.specs.declared.row.LogRow.TheVariants.{Frame}
use Rattle.bus_trace.proofs.PutRows.{rows-split, told-joined}
use Rattle.bus_trace.proofs.streaming.put_frame_rows.Goals as goal

pub returns-in_err-write_all-clause-prefix : goal.returns-in_err-write_all-clause-prefix
returns-in_err-write_all-clause-prefix g c =
    let all = PutsUpTo-stops (text_of_rows (map Frame c.split_at.result.0.now)) (text_of_rows (map Frame c.split_at.result.1.now)) c.loop-left.invariant.put
    (rows-split c.loop-left.left.now c.split_at.result.0.now c.split_at.result.1.now c.split_at.ensures.by_index.0)
    (subst (PutsPrefix (g.O.Sink.told_bytes c.loop-left.out) (g.O.Sink.told_bytes c.write_all.new.sink)) c.frame_rows.ensures.rows c.in_err-write_all.ensures.prefix) in
    search (rules, all)

pub loop-left-preserved : goal.loop-left-preserved
loop-left-preserved g c =
    let left = c.loop-left.left.now in
    let some = c.split_at.result.0.now in
    let later = c.split_at.result.1.now in
    let is = c.split_at.ensures.by_index.0 in
    record {
      put = PutsUpTo-next (text_of_rows (map Frame some)) (text_of_rows (map Frame later)) c.loop-left.invariant.put (rows-split left some later is)
          (subst (Puts (g.O.Sink.told_bytes c.loop-left.out) (g.O.Sink.told_bytes c.write_all.new.sink)) c.frame_rows.ensures.rows c.in_ok-write_all.ensures.all);
      told = λ rest. c.loop-left.invariant.told (told-joined left some later is c.frame_rows.ensures.in_range rest);
      faults = omega (arith, c.in_ok-write_all.ensures.faults_never_fall, c.loop-left.invariant.faults);
    }
