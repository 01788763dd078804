use Rattle.std.proofs.Common.{◌≡◌}
use Rattle.turn_lock.specs.Passes.{IsReady}
use Rattle.library_cases.proofs.locks.play.Given as goal

abbrev pub invariant-loop : goal.invariant-loop
invariant-loop g l = IsReady l.turn l.pass × (l.pass.view.number ≡ l.initial.pass.view.number)
