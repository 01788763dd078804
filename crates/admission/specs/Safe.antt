-- *Safe within the horizon*: what is tested of a list and a state from which a master is to go on. Cycles are elementary
-- cycles, counted from 0.
use Rattle.std.specs.Prelude.{ℕ, ◌<◌, ◌≤◌, List}
use Rattle.profile.specs.Limits.{openings_end}
use Rattle.requirement_table.specs.declared.entries.Placed.{Placed}
use Rattle.planner_policies.specs.Plan.{Planning}
use Rattle.admission_rules.specs.declared.Rules.{Rules}
use Rattle.admission.specs.Recurrence.{AreAlike, IsLeastCommonPeriod}
use Rattle.admission.specs.Verdict.{IsRules, IsSafe, plan_from}

-- two cycles of a planning, the `one`-th and the `other`-th from its first one, which lie within the horizon, have the
-- same plan state
pub record HasRepeat (plan : Planning) (horizon : ℕ) : Type 0 where
  pub period : ℕ
  pub least_common : IsLeastCommonPeriod plan.placed period
  pub one : ℕ
  pub other : ℕ
  pub before : one < other
  pub within : other ≤ horizon
  pub alike : AreAlike plan period one other

-- *Safe within the horizon*: by rules in range, a list may be planned for ever from a cycle on before which these slots
-- are pending, and its plan repeats within the horizon, so that it can be found out
pub record IsSafeWithin (rules : Rules) (placed : List Placed) (from pending : ℕ) : Type 0 where
  pub in_range : IsRules rules
  pub near : from ≤ openings_end
  pub safe : IsSafe rules placed from pending
  pub repeats : HasRepeat (plan_from rules placed from pending) rules.horizon
