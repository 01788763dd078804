use Rattle.std.proofs.Common.{◌≡◌, take}
use Rattle.std.specs.Prelude.{fold}
use Rattle.saved_state.specs.Checksum.{behind}
use Rattle.saved_state.proofs.crc.checksum.Given as goal

abbrev pub invariant-loop-byte : goal.invariant-loop-byte
invariant-loop-byte l = l.register ≡ fold behind 4294967295 (take l.byte-index l.bytes)
