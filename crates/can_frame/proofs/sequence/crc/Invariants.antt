-- The sum is what division leaves of the bytes so far, with those that are left to come behind them.
use Rattle.std.proofs.Common.{◌≡◌, ◌+◌, ◌*◌, ◌^◌, length, take}
use Rattle.can_frame.specs.Crc.{IsRemainder}
use Rattle.can_frame.proofs.ByteSums.{so_far}
use Rattle.can_frame.proofs.sequence.crc.Given as goal

abbrev pub invariant-loop-byte : goal.invariant-loop-byte
invariant-loop-byte l = record {
  all : l.byte-index + l.behind ≡ length l.frame.bytes;
  left : IsRemainder (so_far l.frame.identifier (length l.frame.bytes) (take l.byte-index l.frame.bytes) * 2 ^ (15 + 8 * l.behind)) l.sum;
}
