use Rattle.std.proofs.Common.{◌+◌, ◌*◌, ◌≤◌, Bool, List, ◌++◌, take}
use Rattle.stuff_bound.specs.Fields.{bits_of}
use Rattle.stuff_bound.specs.Sending.{WasGiven}
use Rattle.stuff_bound.proofs.sender.Sender.then_bytes.Given as goal

abbrev pub invariant-loop-byte : goal.invariant-loop-byte
invariant-loop-byte l = record {
  given : (plain : List Bool) → WasGiven l.fn.self plain → WasGiven l.sender (plain ++ bits_of (take l.byte-index l.bytes));
  few : l.sender.stuff_bits ≤ l.fn.self.stuff_bits + 2 * l.byte-index;
}
