use Rattle.std.proofs.Common.{◌≡◌, ◌-◌, ◌++◌, drop, replicate}
use Rattle.plan_check.proofs.plan_text.end_of_run.Given as goal

abbrev pub invariant-loop-place : goal.invariant-loop-place
invariant-loop-place l = record {
  masks : drop l.start l.masks ≡ replicate (l.place - l.start) l.mask ++ drop l.place l.masks;
}
