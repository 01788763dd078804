-- The owners so far.
use Rattle.std.proofs.Common.{◌≡◌}
use Rattle.generated_input.specs.Generator.{each_below, owner_made}
use Rattle.generated_input.proofs.generating.owners.Given as goal

abbrev pub invariant-loop-place : goal.invariant-loop-place
invariant-loop-place l = l.owners.items ≡ each_below l.place owner_made
