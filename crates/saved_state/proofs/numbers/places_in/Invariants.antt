use Rattle.std.proofs.Common.{◌≡◌, ◌++◌, ◌-◌, ◌*◌, ◌+◌, ◌/◌, length}
use Rattle.saved_state.specs.Numbers.{places_in}
use Rattle.saved_state.proofs.numbers.places_in.Given as goal

abbrev pub invariant-loop : goal.invariant-loop
invariant-loop l = record {
  list : l.list.items ++ places_in (length l.numbers / 10 - l.counter) l.rest ≡ places_in (length l.numbers / 10) l.numbers;
  left : length l.rest + 10 * l.counter ≡ length l.numbers;
}
