use Rattle.std.proofs.Common.{◌≡◌, ◌+◌}
use Rattle.requirement_table.specs.Table.{not_over}
use Rattle.planner_policies.specs.Plan.{HasNoMiss, pending_at}
use Rattle.admission.specs.Verdict.{plan_from, ranking_by}
use Rattle.master_core.proofs.core_plans.leads.Given as goal

-- the cycles so far are planned
abbrev pub invariant-loop : goal.invariant-loop
invariant-loop l = record {
  ranking : l.planner.ranking ≡ ranking_by l.rules (not_over l.from.cycle l.placed);
  cycle : l.planner.cycle ≡ l.from.cycle + l.counter;
  in_time : HasNoMiss (plan_from l.rules (not_over l.from.cycle l.placed) l.from.cycle l.from.pending) l.counter;
  pending : l.planner.pending ≡ pending_at (plan_from l.rules (not_over l.from.cycle l.placed) l.from.cycle l.from.pending) l.counter;
}
