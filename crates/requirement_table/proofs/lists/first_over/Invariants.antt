use Rattle.std.proofs.Common.{◌≡◌, ℕ, ◌-◌, ◌^◌, ◌<◌, true, false, take}
use Rattle.std.specs.List.{list_any}
use Rattle.requirement_table.specs.Table.{is_over}
use Rattle.requirement_table.proofs.lists.first_over.Given as goal

abbrev pub invariant-loop-p : goal.invariant-loop-p
invariant-loop-p l = record {
  none_before : (cycle : ℕ) → cycle < l.first → list_any (is_over cycle) (take l.p-index l.placed) ≡ false;
  one : l.first < 2 ^ 64 - 1 → list_any (is_over l.first) (take l.p-index l.placed) ≡ true;
}
