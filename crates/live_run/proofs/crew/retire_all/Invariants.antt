use Rattle.std.proofs.Common.{◌≡◌, ◌≤◌, ℕ, List, All, vec_len}
use mathlib.Core.List.{IsPrefix}
use Rattle.live_master.specs.Passes.{IsPassOf}
use Rattle.live_run.specs.declared.crew.Operator.{Operator}
use Rattle.live_run.specs.Retiring.{HaveRetired}
use Rattle.live_run.proofs.crew.retire_all.Given as goal

abbrev pub invariant-loop-operator : goal.invariant-loop-operator
invariant-loop-operator l = record {
  retired : (gone : List Operator) × HaveRetired l.initial.operators.items l.operators.items gone l.pass.view l.all_answered;
  few : (most : ℕ) → All (λ entry. entry.0 ≤ most) l.initial.pass.view.ended
      → All (λ (operator : Operator). operator.pass.view.number ≤ most) l.initial.operators.items
      → All (λ entry. entry.0 ≤ most) l.pass.view.ended × All (λ (operator : Operator). operator.pass.view.number ≤ most) l.operators.items;
  out : l.pass.view.out ≡ vec_len l.operators;
  begins : IsPrefix l.initial.pass.view.seen l.pass.view.seen;
  mine : l.pass.view.mine ≡ l.initial.pass.view.mine;
  number : l.pass.view.number ≡ l.initial.pass.view.number;
  made : l.pass.view.made ≡ l.initial.pass.view.made;
  standing : IsPassOf l.shared l.pass;
}

abbrev pub decreases-loop-operator : goal.decreases-loop-operator
decreases-loop-operator l = vec_len l.operators
