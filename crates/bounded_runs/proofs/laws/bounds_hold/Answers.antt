use Rattle.async_bound.specs.Bound.{blocking, longest_up_to}
use Rattle.bounded_runs.proofs.laws.bounds_hold.Goals as goal

pub returns : goal.returns
returns c = record {
  starts = λ sends layout requests openings count trace streams stream span place request known run are of has fitting is within.
      c.requests_start_in_time.ensures.starts sends layout requests openings count trace streams stream (longest_up_to streams stream.id) (blocking streams) span place request
      known run are of (c.fitting_is_bound.ensures.bound layout streams stream span known are has fitting) is within;
}
