-- The bit that was read last is recessive.
use Rattle.can_frame.proofs.Steps.{recessive_found}
use Rattle.can_frame.proofs.reader.Reader.dominant.Goals as goal

pub returns-then-branch-clause-fault : goal.returns-then-branch-clause-fault
returns-then-branch-clause-fault c =
    recessive_found c.args.self.now c.bit.new.self _ _ c.if-branch.true c.requires.expects c.in_ok-bit.ensures.ok c.in_ok-bit.ensures.last c.requires.fixed c.last_place.ensures.value
