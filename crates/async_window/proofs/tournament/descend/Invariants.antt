use Rattle.std.proofs.Common.{◌≡◌, ℕ, ◌+◌, get_or}
use Rattle.async_window.proofs.Levels.{IsOnTheWay}
use Rattle.async_window.proofs.tournament.descend.Given as goal

abbrev pub invariant-loop : goal.invariant-loop
invariant-loop l = (rest : ℕ) → l.counter + rest ≡ l.levels
    → IsOnTheWay (λ node. get_or l.nodes node 0) l.levels l.bound rest l.step.node l.step.sooner
