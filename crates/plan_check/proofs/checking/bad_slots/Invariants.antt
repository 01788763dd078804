use Rattle.std.proofs.Common.{◌≡◌, ℕ, ◌&&◌, not, nat_eq, take}
use Rattle.std.specs.List.{list_any}
use Rattle.requirement_table.specs.declared.entries.Placed.{Placed}
use Rattle.bit_sets.specs.Sets.{has_bit}
use Rattle.plan_check.specs.PlanKept.{goes_round}
use Rattle.plan_check.proofs.checking.bad_slots.Given as goal

abbrev pub invariant-loop-p : goal.invariant-loop-p
invariant-loop-p l = (slot : ℕ) → has_bit l.bad slot
    ≡ list_any {X = Placed} (λ p. nat_eq p.entry.slot slot && not (goes_round l.first l.length p)) (take l.p-index l.placed)
