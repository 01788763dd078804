-- The remainder is there, and is one.
use Rattle.can_frame.proofs.Remainder.{IsRemainder-one, IsSequence-sequence_of}
use Rattle.can_frame.proofs.laws.one_crc_sequence.Goals as goal

pub returns : goal.returns
returns c = record { there = IsSequence-sequence_of; one = IsRemainder-one }
