use Rattle.std.proofs.Common.{List, ap, ◌∙◌}
use Rattle.requirement_table.specs.declared.entries.Placed.{Placed}
use Rattle.requirement_table.specs.Table.{not_over}
use Rattle.planner_policies.specs.Plan.{Standing}
use Rattle.master_core.proofs.Passing.{not_over-again}
use Rattle.master_core.proofs.table.Table.pass.Goals as goal

pub returns-then-self-state-clause-ranking : goal.returns-then-self-state-clause-ranking
returns-then-self-state-clause-ranking c =
    let table = c.args.self.now in
    ap (λ (s : Standing). s.ranking) c.drop_over.ensures.standing
    ∙ ap (λ (s : Standing). record s.ranking { placed = not_over c.args.state.now.cycle s.ranking.placed }) c.bring.ensures.standing
    ∙ ap (λ (l : List Placed). record table.planner.ranking { placed = l })
    (ap (not_over c.args.state.now.cycle) c.requires.left ∙ not_over-again table.since c.args.state.now.cycle table.placed.items c.requires.since)
