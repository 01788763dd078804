use Rattle.std.proofs.Common.{◌≡◌, ℕ, ◌<◌, true, IfSome, slice_get, slice_index_or}
use Rattle.plan_check.specs.PlanKept.{goes_round}
use Rattle.plan_check.proofs.blocks.all_go_round.Given as goal

abbrev pub invariant-loop-slot : goal.invariant-loop-slot
invariant-loop-slot l =
    (slot : ℕ) → slot < l.slot → IfSome (slice_get l.placed (slice_index_or l.places slot 0)) (λ p. goes_round l.first l.length p ≡ true)
