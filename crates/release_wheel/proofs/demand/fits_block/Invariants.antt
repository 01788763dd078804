use Rattle.std.proofs.Common.{take}
use Rattle.release_wheel.proofs.Demands.{IsSummed}
use Rattle.release_wheel.proofs.demand.fits_block.Given as goal

abbrev pub invariant-loop-p : goal.invariant-loop-p
invariant-loop-p l = IsSummed (take l.p-index l.placed) l.w l.from l.until l.demand
