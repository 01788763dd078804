use Rattle.bounded_runs.proofs.laws.kept_runs_are_in_time.Goals as goal

pub returns : goal.returns
returns c = record {
  starts = λ setting history trace streams stream span place request known whole kept are of has fitting is within.
      c.runs_keep_bounds.ensures.starts setting history trace streams stream span place request known
      (c.kept_is_under_way.ensures.under_way setting history trace known whole kept) are of has fitting is within;
}
