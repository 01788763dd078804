use Rattle.master_core.specs.Openings.{openings_of}
use Rattle.master_core.specs.History.{next_of}
use Rattle.bounded_runs.proofs.UnderWay.{run-of}
use Rattle.bounded_runs.proofs.laws.runs_keep_bounds.Goals as goal

pub returns : goal.returns
returns c = record {
  run = λ setting history trace known way. run-of setting known history trace way;
  starts = λ setting history trace streams stream span place request known way are of has fitting is within.
      c.bounds_hold.ensures.starts setting.sends setting.layout setting.requests (openings_of history) (next_of history) trace streams stream span place request
      known.known (run-of setting known history trace way) are of has fitting is within;
}
