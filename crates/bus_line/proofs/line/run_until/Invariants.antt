use Rattle.std.proofs.Common.{◌≡◌, ◌-◌, ◌≤◌, vec_capacity}
use Rattle.bus_line.proofs.Running.{Running}
use Rattle.bus_line.proofs.line.run_until.Given as goal

abbrev pub invariant-loop-next : goal.invariant-loop-next
invariant-loop-next g l = record {
  run : Running g.S.Stations.line (g.S.Stations.state l.initial.stations) (g.S.Stations.state l.stations) l.from l.until l.initial.out.items l.out.items l.free;
  capacity : vec_capacity l.initial.out ≤ vec_capacity l.out;
  fixed : g.S.Stations.fixed l.stations ≡ g.S.Stations.fixed l.initial.stations;
}

abbrev pub decreases-loop-next : goal.decreases-loop-next
decreases-loop-next g l = l.until - l.free
