use Rattle.std.proofs.Common.{◌≡◌, ℕ, ◌<◌, ◌≤◌, true, Some, slice_get}
use Rattle.requirement_table.specs.declared.entries.Placed.{Placed}
use Rattle.requirement_table.specs.Table.{is_over}
use Rattle.plan_report.proofs.current.first_left.Given as goal

abbrev pub invariant-loop-place : goal.invariant-loop-place
invariant-loop-place l = (place : ℕ) (p : Placed) → l.from ≤ place → place < l.place → slice_get l.placed place ≡ Some p → p.entry.slot ≡ l.slot
    → is_over l.cycle p ≡ true
