use Rattle.std.proofs.Common.{◌≡◌, ℕ, take, nat_eq}
use Rattle.std.specs.List.{list_any}
use Rattle.bit_sets.specs.Sets.{has_bit}
use Rattle.planner_policies.specs.declared.due.Due.{Due}
use Rattle.planner_policies.proofs.planning.slots_of.Given as goal

abbrev pub invariant-loop-due : goal.invariant-loop-due
invariant-loop-due l = (slot : ℕ) → has_bit l.slots slot ≡ list_any {X = Due} (λ due. nat_eq due.slot slot) (take l.due-index l.line)
