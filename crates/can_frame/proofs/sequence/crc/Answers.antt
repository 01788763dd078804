-- Each byte adds its share, and division leaves one remainder.
use Rattle.std.proofs.Common.{arith}
use Rattle.can_frame.specs.Crc.{IsSequence}
use Rattle.can_frame.specs.Wire.{covered}
use Rattle.can_frame.proofs.Remainder.{IsRemainder-one, IsSequence-sequence_of}
use Rattle.can_frame.proofs.ByteSums.{so_far, so_far-none, next-share, whole-sum}
use Rattle.can_frame.proofs.sequence.crc.Goals as goal

pub loop-byte-init : goal.loop-byte-init
loop-byte-init c = grind (arith, so_far, so_far-none)

pub loop-byte-preserved : goal.loop-byte-preserved
loop-byte-preserved c = grind (arith, next-share)

-- the sum at the end is the sequence
at_end : (c : goal.After-loop-byte) → IsSequence (covered c.args.frame.now) c.loop-byte.sum
unfolding covered
at_end c = grind (arith, whole-sum)

pub returns-clause-value : goal.returns-clause-value
returns-clause-value c =
    IsRemainder-one _ _ _ (at_end c) (IsSequence-sequence_of (covered c.args.frame.now))

pub returns-clause-remainder : goal.returns-clause-remainder
returns-clause-remainder c = at_end c
