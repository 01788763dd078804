use Rattle.bit_sets.proofs.SetOf.{set_of-below, has_bit-set_of, set_of-same}
use Rattle.bit_sets.proofs.laws.sets_of_slots.Goals as goal

pub returns-clause-below : goal.returns-clause-below
returns-clause-below c = set_of-below

pub returns-clause-slots : goal.returns-clause-slots
returns-clause-slots c = λ n slot p. has_bit-set_of n p slot

pub returns-clause-same : goal.returns-clause-same
returns-clause-same c = set_of-same
