use Rattle.stuff_bound.proofs.Stuffs.{Stuffs-stuffed, stuffed_only, plain_only}
use Rattle.stuff_bound.proofs.laws.one_wire.Goals as goal

pub returns-clause-one_wire : goal.returns-clause-one_wire
returns-clause-one_wire c wire plain = (stuffed_only wire plain, λ e. rw e (Stuffs-stuffed plain))

pub returns-clause-one_plain : goal.returns-clause-one_plain
returns-clause-one_plain c wire first second h k = plain_only wire first second h k
