use Rattle.std.proofs.Common.{refl, arith, rules, take, drop, sym}
use Rattle.std.proofs.lemmas.Grind.{common_steps}
use Rattle.std.proofs.lemmas.List.{take-append-drop}
use Rattle.ftt_io.proofs.Shared.{PutsUpTo-start, PutsUpTo-next, PutsUpTo-stops}
use Rattle.fttcan_top.proofs.rows.put_rows.Goals as goal

pub loop-rest-init : goal.loop-rest-init
loop-rest-init g c = record { put = PutsUpTo-start _ refl; faults = omega arith }

pub returns-in_err-write_all-clause-prefix : goal.returns-in_err-write_all-clause-prefix
returns-in_err-write_all-clause-prefix g c =
    let n = c.row_len-end.result in
    let rest = c.loop-rest.rest.now in
    let all = PutsUpTo-stops (take n rest) (drop n rest) c.loop-rest.invariant.put (sym (take-append-drop n rest)) c.in_err-write_all.ensures.prefix in
    search (rules, all)

pub loop-rest-preserved : goal.loop-rest-preserved
loop-rest-preserved g c =
    let n = c.row_len-end.result in
    record {
      put = PutsUpTo-next (take n c.loop-rest.rest.now) _ c.loop-rest.invariant.put (grind (arith, common_steps)) c.in_ok-write_all.ensures.all;
      faults = omega (arith, c.in_ok-write_all.ensures.faults_never_fall, c.loop-rest.invariant.faults);
    }
