-- Cycles that are passed without planning.
use Rattle.std.specs.Prelude.{◌≡◌}
use Rattle.bit_sets.specs.Sets.{has_bit, most_slots, set_of}
use Rattle.planner_policies.specs.Plan.{HasNoMissIn, Planning, left_after, planned_in}

-- in the first cycle of a planning nothing is missed, and the same slots are pending after it
pub record LeavesSame (plan : Planning) : Type 0 where
  pub none_missed : HasNoMissIn plan plan.from (has_bit plan.pending)
  pub left : plan.pending ≡ set_of most_slots (left_after plan plan.from (has_bit plan.pending))

-- in the first cycle of a planning nothing is planned or missed, and the same slots are pending after it
pub record IsPassed (plan : Planning) : Type 0 where
  pub planned : set_of most_slots (planned_in plan plan.from (has_bit plan.pending)) ≡ 0
  pub same : LeavesSame plan
