use Rattle.std.proofs.Common.{◌-◌}
use Rattle.release_wheel.proofs.Demands.{IsAdding}
use Rattle.release_wheel.proofs.demand.add_releases.Given as goal

abbrev pub invariant-loop-cycle : goal.invariant-loop-cycle
invariant-loop-cycle l = IsAdding l.p l.w l.from l.cycle l.fn.demand l.demand

abbrev pub decreases-loop-cycle : goal.decreases-loop-cycle
decreases-loop-cycle l = l.end - l.cycle
