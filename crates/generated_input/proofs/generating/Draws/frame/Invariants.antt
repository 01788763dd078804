-- The number of the bytes so far, of a draw each behind that of their count.
use Rattle.std.proofs.Common.{◌≡◌, ◌+◌, ◌%◌, ◌^◌, ◌<◌}
use Rattle.std.specs.Int.{bytes_high_first}
use Rattle.generated_input.specs.Generator.{draw, each_below, state_after}
use Rattle.generated_input.proofs.generating.Draws.frame.Given as goal

abbrev pub invariant-loop : goal.invariant-loop
invariant-loop l = record {
  small : l.number < 256 ^ l.counter;
  made : bytes_high_first l.counter l.number ≡ each_below l.counter (λ place. draw l.fn.self.state (2 + place) % 256);
  state : l.self.state ≡ state_after l.fn.self.state (1 + l.counter);
}
