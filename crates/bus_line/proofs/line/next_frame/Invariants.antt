use Rattle.std.proofs.Common.{◌-◌, ◌≤◌, []}
use Rattle.bus_line.specs.Trace.{NothingOffered}
use Rattle.bus_line.specs.Stations.{offers_of}
use Rattle.bus_line.proofs.line.next_frame.Given as goal

-- nothing was offered since the bus is free
abbrev pub invariant-loop-at : goal.invariant-loop-at
invariant-loop-at g l = record {
  free : l.free ≤ l.at;
  nothing : NothingOffered (offers_of g.S.Stations.line (g.S.Stations.state l.stations)) [] l.free l.at;
}

abbrev pub decreases-loop-at : goal.decreases-loop-at
decreases-loop-at g l = l.until - l.at
