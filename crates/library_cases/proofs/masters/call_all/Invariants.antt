use Rattle.std.proofs.Common.{◌≡◌}
use Rattle.turn_lock.specs.Passes.{IsOfLock}
use Rattle.library_cases.proofs.masters.call_all.Given as goal

abbrev pub invariant-loop-word : goal.invariant-loop-word
invariant-loop-word l = record {
  dispatcher : IsOfLock l.shared l.dispatcher;
  operator : IsOfLock l.shared l.operator;
  out : l.dispatcher.view.out ≡ l.initial.dispatcher.view.out;
}
