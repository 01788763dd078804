-- So many bytes were gone through, and the others stand behind.
use Rattle.std.proofs.Common.{◌≡◌, ◌+◌, length}
use Rattle.can_frame.specs.Begun.{HasBegun}
use Rattle.can_frame.proofs.sending.begin.Given as goal

abbrev pub invariant-loop-byte : goal.invariant-loop-byte
invariant-loop-byte l = record {
  all : l.byte-index + l.behind ≡ length l.frame.bytes;
  begun : HasBegun l.frame l.byte-index l.begun.sum l.begun.sender;
}
