use Rattle.std.proofs.Common.{◌≡◌, ◌++◌, ◌-◌, ◌*◌, ◌+◌, ◌/◌, length}
use Rattle.saved_state.specs.Numbers.{numbers_in}
use Rattle.saved_state.proofs.reading.numbers_in.Given as goal

abbrev pub invariant-loop : goal.invariant-loop
invariant-loop l = record {
  list : l.numbers.items ++ numbers_in (length l.bytes / 8 - l.counter) l.rest ≡ numbers_in (length l.bytes / 8) l.bytes;
  left : length l.rest + 8 * l.counter ≡ length l.bytes;
}
