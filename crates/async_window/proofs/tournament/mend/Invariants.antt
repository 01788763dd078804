use Rattle.std.proofs.Common.{◌≡◌, ℕ, ◌+◌}
use Rattle.async_window.proofs.Trees.{IsMendedTo}
use Rattle.async_window.proofs.tournament.mend.Given as goal

abbrev pub invariant-loop : goal.invariant-loop
invariant-loop l = (rest : ℕ) → l.counter + rest ≡ l.levels → IsMendedTo l.levels rest l.node l.least l.initial.nodes l.nodes
