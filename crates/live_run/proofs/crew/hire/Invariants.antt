use Rattle.std.proofs.Common.{◌≡◌, ◌≤◌, vec_len, vec_capacity}
use Rattle.live_master.specs.Passes.{IsPassOf}
use Rattle.live_run.specs.Crew.{AreHired, HasLent}
use Rattle.live_run.proofs.crew.hire.Given as goal

abbrev pub invariant-loop : goal.invariant-loop
invariant-loop l = record {
  hired : AreHired l.shared l.operators.items;
  count : vec_len l.operators ≡ l.counter;
  room : l.count ≤ vec_capacity l.operators;
  lent : HasLent l.initial.pass.view l.pass.view l.counter;
  standing : IsPassOf l.shared l.pass;
}
