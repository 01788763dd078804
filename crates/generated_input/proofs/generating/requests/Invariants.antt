-- The requests so far, with room for the others. Each arrives less than 1,000 bit times behind the one before.
use Rattle.std.proofs.Common.{◌≡◌, ◌+◌, ◌*◌, ◌≤◌, ℕ, vec_capacity, vec_len}
use Rattle.generated_input.specs.Generator.{state_after}
use Rattle.generated_input.proofs.GeneratorRequests.{Made}
use Rattle.generated_input.proofs.generating.requests.Given as goal

abbrev pub invariant-loop : goal.invariant-loop
invariant-loop l = record {
  room : vec_len l.requests + 20000 ≤ vec_capacity l.requests + l.counter;
  early : l.last ≤ 1000 * l.counter;
  made : (number : ℕ) → l.fn.draws.state ≡ state_after number (6 * 40) → Made number l.counter l.draws.state l.last l.requests.items;
}
