use Rattle.std.proofs.Common.{arith, option_map}
use Rattle.master_core.proofs.Growing.{all-answered, all-formed}
use Rattle.master_core.proofs.lean.put_answer.Goals as goal

pub make_ready-requires : goal.make_ready-requires
make_ready-requires c = grind (arith, all-formed)

pub put_event-requires : goal.put_event-requires
put_event-requires c = grind arith

pub returns-clause-all : goal.returns-clause-all
returns-clause-all c = grind (arith, option_map, all-answered)
