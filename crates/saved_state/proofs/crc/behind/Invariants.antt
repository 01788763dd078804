use Rattle.std.proofs.Common.{◌≡◌}
use Rattle.std.specs.Prelude.{bit_xor}
use Rattle.saved_state.specs.Checksum.{shifted_by}
use Rattle.saved_state.proofs.crc.behind.Given as goal

abbrev pub invariant-loop : goal.invariant-loop
invariant-loop l = l.register ≡ shifted_by l.counter (bit_xor l.fn.register l.fn.byte)
