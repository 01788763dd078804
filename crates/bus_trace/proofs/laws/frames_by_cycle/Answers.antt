use Rattle.std.proofs.Common.{[], refl}
use Rattle.bus_trace.proofs.ByCycle.{rest-by_cycle}
use Rattle.bus_trace.proofs.laws.frames_by_cycle.Goals as goal

pub returns : goal.returns
returns c = record { frames = λ trace cycle_of counts cycle. rest-by_cycle cycle_of cycle [] trace 0 refl counts }
