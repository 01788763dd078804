use Rattle.std.proofs.Common.{◌≡◌, [], All, length}
use Rattle.live_run.specs.declared.script.Script.{Script}
use Rattle.live_steps.proofs.parting.empty_scripts.Given as goal

abbrev pub invariant-loop : goal.invariant-loop
invariant-loop l = record {
  count : length l.scripts.items ≡ l.counter;
  empty : All (λ (script : Script). script.acts ≡ []) l.scripts.items;
}
