use Rattle.cycle_engine.proofs.OneTrace.{one-can_trace}
use Rattle.cycle_engine.proofs.laws.one_can_trace.Goals as goal

pub returns : goal.returns
returns c = record { only_one = one-can_trace }
