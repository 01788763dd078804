use Rattle.std.proofs.Common.{◌≡◌, ◌++◌, take}
use Rattle.saved_state.specs.Bytes.{bytes_of_numbers}
use Rattle.saved_state.proofs.writing.put_numbers.Given as goal

abbrev pub invariant-loop-number : goal.invariant-loop-number
invariant-loop-number l = l.bytes.items ≡ l.initial.bytes.items ++ bytes_of_numbers (take l.number-index l.numbers)
