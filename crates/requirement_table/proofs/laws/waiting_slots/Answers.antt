use Rattle.requirement_table.proofs.Waiting.{waiting-before, waiting-within}
use Rattle.requirement_table.proofs.laws.waiting_slots.Goals as goal

pub returns : goal.returns
returns c = record { before = waiting-before; within = waiting-within }
