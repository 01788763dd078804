use Rattle.std.proofs.Common.{arith}
use Rattle.requirement_table.proofs.Latest.{instance_of-sent, released_by-released}
use Rattle.requirement_table.proofs.laws.instances_of_an_entry.Goals as goal

pub returns-clause-released : goal.returns-clause-released
returns-clause-released c = grind (arith, released_by-released)

pub returns-clause-sendable : goal.returns-clause-sendable
returns-clause-sendable c = grind (arith, instance_of-sent)
