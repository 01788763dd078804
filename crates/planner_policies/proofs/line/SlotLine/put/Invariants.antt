use Rattle.std.proofs.Common.{◌≡◌}
use Rattle.planner_policies.proofs.Lines.{IsMovedUp}
use Rattle.planner_policies.proofs.line.SlotLine.put.Given as goal

abbrev pub decreases-loop-place : goal.decreases-loop-place
decreases-loop-place g l = l.place

abbrev pub invariant-loop-place : goal.invariant-loop-place
invariant-loop-place g l = record {
  count : l.self-inside.count ≡ l.initial.self-inside.count;
  moved : IsMovedUp l.initial.self-inside.places l.self-inside.places l.due l.place l.initial.self-inside.count;
}
