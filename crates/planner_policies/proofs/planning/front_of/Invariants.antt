use Rattle.std.proofs.Common.{◌≡◌, ℕ, ◌≤◌, take, nat_eq}
use Rattle.std.specs.List.{list_any, sum_by}
use Rattle.bit_sets.specs.Sets.{has_bit}
use Rattle.planner_policies.specs.declared.due.Due.{Due}
use Rattle.planner_policies.proofs.planning.front_of.Given as goal

abbrev pub invariant-loop-place : goal.invariant-loop-place
invariant-loop-place l = record {
  cost : l.width ≡ sum_by {X = Due} (λ due. due.cost) (take l.place l.line);
  fits : l.width ≤ l.fn.w;
  taken : (slot : ℕ) → has_bit l.mask slot ≡ list_any {X = Due} (λ due. nat_eq due.slot slot) (take l.place l.line);
}
