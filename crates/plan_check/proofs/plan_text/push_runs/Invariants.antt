use Rattle.std.proofs.Common.{◌≡◌, ◌≤◌, ◌-◌, ◌++◌, drop, length, map}
use Rattle.plan_check.specs.declared.plan_runs.Version.TheVariants.{Two}
use Rattle.plan_check.specs.PlanText.{run_line, runs_of, text_of}
use Rattle.plan_check.proofs.plan_text.push_runs.Given as goal

abbrev pub decreases-loop-start : goal.decreases-loop-start
decreases-loop-start l = length l.masks - l.start

abbrev pub invariant-loop-start : goal.invariant-loop-start
invariant-loop-start l = record {
  within : l.start ≤ length l.masks;
  text : l.text.items ++ text_of (map (run_line Two) (runs_of (drop l.start l.masks))) ≡ l.fn.text.items ++ text_of (map (run_line Two) (runs_of l.masks));
}
