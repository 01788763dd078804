use Rattle.std.proofs.Common.{arith}
use Rattle.bit_sets.specs.Sets.{most_slots}
use Rattle.bit_sets.proofs.SetOf.{set_of-has_bit}
use Rattle.bit_sets.proofs.slots.Mask.known.Goals as goal

pub returns-clause-slots : goal.returns-clause-slots
returns-clause-slots c = set_of-has_bit most_slots c.args.self (omega arith)
