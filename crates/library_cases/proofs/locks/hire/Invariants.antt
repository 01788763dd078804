use Rattle.std.proofs.Common.{◌≡◌, ◌≢◌, All, vec_len}
use Rattle.turn_lock.specs.Passes.{IsReady}
use Rattle.library_cases.proofs.locks.hire.Given as goal

abbrev pub invariant-loop : goal.invariant-loop
invariant-loop l = record {
  ready : IsReady l.turn l.first;
  first : l.first.view.number ≡ 0;
  made : l.first.view.made ≡ l.counter;
  out : l.first.view.out ≡ vec_len l.passes;
  count : vec_len l.passes ≡ l.counter;
  passes : All (λ pass. IsReady l.turn pass × (pass.view.number ≢ 0)) l.passes.items;
}
