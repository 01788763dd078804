-- What is decided of a change, and what an accepted one is planned from.
use Rattle.std.specs.Prelude.{◌≡◌, ℕ, option_map}
use Rattle.requirement_table.specs.Table.{not_over}
use Rattle.planner_policies.specs.Plan.{IsValid}
use Rattle.admission_rules.specs.declared.Rules.{Rules}
use Rattle.admission.specs.declared.decision.Decision.{Decision}
use Rattle.admission.specs.declared.decision.Judgement.{Judgement}
use Rattle.admission.specs.declared.decision.RankedTable.{RankedTable}
use Rattle.admission.specs.Verdict.{ranking_by}

-- the decision without what it is planned from
abbrev pub decision_in : Judgement → Decision
decision_in judgement = record {
  verdict = judgement.verdict;
  placed = option_map (λ table. table.placed) judgement.table;
  trail = judgement.trail;
}

-- what is planned of a table are its entries that are not over by the cycle `from`, by these rules. The planning stands
-- before that cycle, where these slots are pending
pub record IsRankedFrom (rules : Rules) (from pending : ℕ) (table : RankedTable) : Type 0 where
  pub left : table.planner.ranking ≡ ranking_by rules (not_over from table.placed)
  pub held : IsValid table.planner.ranking.placed from pending
  pub cycle : table.planner.cycle ≡ from
  pub before : table.planner.pending ≡ pending
