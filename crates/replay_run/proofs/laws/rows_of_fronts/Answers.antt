use Rattle.std.proofs.Common.{◌<◌, arith}
use Rattle.replay_run.proofs.RowsSoFar.{rows-front}
use Rattle.replay_run.proofs.laws.rows_of_fronts.Goals as goal

pub returns : goal.returns
returns c = record {
  front = λ setting history later trace frames known way all_way.
      let (rest, all, after) = c.legal_runs.ensures.front setting history later trace frames known way all_way.legal all_way.can_trace in
      let some : 0 < setting.layout.cycle = omega (arith, known.known.cycle_range.above) in
      rows-front (record { cycles = c.opened_cycles.ensures.cycles }) c.wire_lengths.ensures.not_empty setting history later trace frames rest
      some way all_way all after;
}
