use Rattle.std.proofs.Common.{◌≡◌, ℕ, ◌+◌, ◌-◌, ◌<◌}
use Rattle.bit_sets.specs.Sets.{has_bit, most_slots}
use Rattle.plan_check.specs.Breaches.{IsGoodAt}
use Rattle.plan_check.specs.PlanKept.{is_held}
use Rattle.plan_check.proofs.checking.check_block.Given as goal

abbrev pub invariant-loop-i : goal.invariant-loop-i
invariant-loop-i l = record {
  held : (s : ℕ) → s < most_slots → has_bit l.left s ≡ is_held l.placed l.certificate (l.cycle + l.i - l.certificate.from) s;
  good : (n : ℕ) → n < l.cycle + l.i - l.certificate.from → IsGoodAt l.placed l.w l.certificate n;
}
