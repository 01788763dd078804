use Rattle.std.proofs.Common.{◌≡◌, ◌++◌, replicate}
use Rattle.plan_check.proofs.plan_text.push_cycles.Given as goal

abbrev pub invariant-loop : goal.invariant-loop
invariant-loop l = l.masks.items ≡ l.fn.masks.items ++ replicate l.counter l.run.mask
