-- The changes so far, of six draws each.
use Rattle.std.proofs.Common.{◌≡◌, ◌*◌}
use Rattle.generated_input.specs.Generator.{change_made, each_below, state_after}
use Rattle.generated_input.proofs.generating.steps.Given as goal

abbrev pub invariant-loop-slot : goal.invariant-loop-slot
invariant-loop-slot l = record {
  changes : l.steps.items ≡ each_below l.slot (change_made l.fn.draws.state);
  state : l.draws.state ≡ state_after l.fn.draws.state (6 * l.slot);
}
