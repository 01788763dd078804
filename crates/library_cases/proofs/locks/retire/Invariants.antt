use Rattle.std.proofs.Common.{◌≡◌, ◌≢◌, All, vec_len}
use Rattle.turn_lock.specs.Passes.{IsReady}
use Rattle.library_cases.proofs.locks.retire.Given as goal

abbrev pub invariant-loop-pass : goal.invariant-loop-pass
invariant-loop-pass l = record {
  ready : IsReady l.turn l.first;
  first : l.first.view.number ≡ 0;
  out : l.first.view.out ≡ vec_len l.passes;
  passes : All (λ pass. IsReady l.turn pass × (pass.view.number ≢ 0)) l.passes.items;
}

abbrev pub decreases-loop-pass : goal.decreases-loop-pass
decreases-loop-pass l = vec_len l.passes
