use Rattle.std.proofs.Common.{◌≡◌, ℕ, ◌-◌, ◌<◌, ◌≤◌}
use Rattle.bit_sets.specs.Sets.{has_bit, most_slots}
use Rattle.plan_check.specs.Blocks.{IsLastBlock}
use Rattle.plan_check.specs.Breaches.{IsGoodAt}
use Rattle.plan_check.specs.PlanKept.{is_held}
use Rattle.plan_check.specs.Places.{ArePassed}
use Rattle.plan_check.proofs.checking.check_cycles.Given as goal

abbrev pub decreases-loop-cycle : goal.decreases-loop-cycle
decreases-loop-cycle l = l.end - l.cycle

abbrev pub invariant-loop-cycle : goal.invariant-loop-cycle
invariant-loop-cycle l = record {
  after : l.certificate.from ≤ l.cycle;
  within : l.cycle ≤ l.end;
  passed : ArePassed l.placed l.cycle l.slots l.places;
  last : IsLastBlock l.placed l.cycle l.last;
  held : (s : ℕ) → s < most_slots → has_bit l.held s ≡ is_held l.placed l.certificate (l.cycle - l.certificate.from) s;
  before : l.certificate.first < l.cycle → (s : ℕ) → s < most_slots
      → has_bit l.before s ≡ is_held l.placed l.certificate (l.certificate.first - l.certificate.from) s;
  good : (n : ℕ) → n < l.cycle - l.certificate.from → IsGoodAt l.placed l.w l.certificate n;
}
