-- What holds of the fields of every master.
use Rattle.std.specs.Prelude.{◌≡◌, ℕ, ◌+◌, ◌^◌, ◌<◌, ◌≤◌, List, Option}
use Rattle.profile.specs.Limits.{openings_end}
use Rattle.requirement_table.specs.declared.entries.Placed.{Placed}
use Rattle.requirement_table.specs.Table.{not_over}
use Rattle.planner_policies.specs.Plan.{Ranking, pending_at}
use Rattle.admission_rules.specs.declared.Rules.{Rules}
use Rattle.admission.specs.Verdict.{IsRules, ranking_by}
use Rattle.master_core.specs.declared.event.Event.{Event}
use Rattle.master_core.specs.History.{IsLegal, learned_of, next_of, placed_of, plan_of}

-- what contracts see of a master: its rules, its history, and the number of events that it has room for
pub record MasterView : Type 0 where
  pub rules : Rules
  pub history : List Event
  pub spare : ℕ

-- the fields agree with the history: the placed entries, the next cycle and what is pending before it, and what the
-- nodes are to learn; the plan is made from the entries that were not over by the cycle `since`
pub record IsMasterKept (rules : Rules) (history : List Event) (list : List Placed) (since : ℕ) (ranked : Ranking)
    (cycle pending : ℕ) (learned : Option (List Placed)) : Type 0 where
  pub ranges : IsRules rules
  pub legal : IsLegal rules history
  pub placed : list ≡ placed_of history
  pub next : cycle ≡ next_of history
  pub near : cycle ≤ openings_end
  pub waiting : pending ≡ pending_at (plan_of rules list) cycle
  pub passed : since ≤ cycle
  pub left : ranked ≡ ranking_by rules (not_over since list)
  pub to_learn : learned ≡ learned_of history

-- the room of a history: it has so many events, a vector that holds them has so much room in all, and so many more are
-- spared
pub record HasEventRoom (events room spare : ℕ) : Type 0 where
  pub spared : events + spare ≤ room
  pub few : events + spare < 2 ^ 61
