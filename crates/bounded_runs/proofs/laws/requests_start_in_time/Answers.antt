use Rattle.std.proofs.Common.{◌*◌}
use Rattle.async_bound.specs.Room.{is_usable}
use Rattle.bounded_runs.proofs.Delay.{bound-by, starts-within}
use Rattle.bounded_runs.proofs.Fills.{answering-run}
use Rattle.bounded_runs.proofs.laws.requests_start_in_time.Goals as goal

pub returns : goal.returns
returns c = record {
  starts = λ sends layout requests openings count trace streams stream longest blocked span place request known run are of bound is within.
      starts-within requests trace (is_usable layout longest) longest (count * layout.cycle) (answering-run sends layout known requests openings count trace run longest)
      streams are of stream blocked span (bound-by layout streams stream longest blocked span bound) place request is within;
}
