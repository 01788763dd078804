use Rattle.std.proofs.Common.{◌≡◌, ℕ, ◌+◌, ◌<◌, ◌≤◌}
use Rattle.bit_sets.specs.Sets.{has_bit, most_slots, sum_where}
use Rattle.requirement_table.specs.Table.{width_in, worst_in}
use Rattle.plan_report.specs.Current.{AreEntriesPassed}
use Rattle.plan_report.proofs.load.width.Given as goal

-- the width so far, with what the slots cost that are left, is the whole width
abbrev pub invariant-loop-slot : goal.invariant-loop-slot
invariant-loop-slot l = record {
  later : l.cycle < l.until;
  so_far : (c : ℕ) → l.cycle ≤ c → c < l.until
      → l.bits + sum_where most_slots (has_bit l.left) (worst_in l.placed c) ≡ width_in l.placed c (has_bit l.fn.mask);
  passed : AreEntriesPassed l.placed l.places.first l.cycle;
}

abbrev pub decreases-loop-slot : goal.decreases-loop-slot
decreases-loop-slot l = l.left
