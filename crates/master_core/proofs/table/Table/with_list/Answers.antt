use Rattle.std.proofs.Common.{List, ap, ◌∙◌, sym}
use Rattle.requirement_table.specs.declared.entries.Placed.{Placed}
use Rattle.requirement_table.specs.Table.{not_over}
use Rattle.planner_policies.specs.Plan.{Standing}
use Rattle.master_core.proofs.Passing.{not_over-again}
use Rattle.master_core.proofs.table.Table.with_list.Goals as goal

pub returns-clause-since : goal.returns-clause-since
returns-clause-since c =
    c.planned.ensures.since
    ∙ ap (λ (s : Standing). s.cycle) c.drop_over.ensures.standing
    ∙ ap (λ (s : Standing). s.cycle) c.bring.ensures.standing

pub returns-clause-ranking : goal.returns-clause-ranking
returns-clause-ranking c =
    let table = c.args.self in
    ap (λ (s : Standing). s.ranking) c.planned.ensures.planner
    ∙ ap (λ (s : Standing). s.ranking) c.drop_over.ensures.standing
    ∙ ap (λ (s : Standing). record s.ranking { placed = not_over c.args.state.now.cycle s.ranking.placed }) c.bring.ensures.standing
    ∙ ap (λ (l : List Placed). record table.planner.ranking { placed = l })
    (ap (not_over c.args.state.now.cycle) c.requires.left
    ∙ not_over-again table.since c.args.state.now.cycle table.placed.items c.requires.since
    ∙ sym c.requires.same)
