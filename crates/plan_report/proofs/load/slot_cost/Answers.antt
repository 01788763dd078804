use Rattle.std.proofs.Common.{sym, ◌∙◌, arith, subst, ◌≡◌}
use Rattle.requirement_table.specs.Table.{worst_in}
use Rattle.requirement_table.proofs.Shared.{MaySend-from_instance}
use Rattle.plan_report.proofs.Widths.{worst-found, worst-none}
use Rattle.plan_report.proofs.load.slot_cost.Goals as goal

pub returns-in-Some-clause-cost : goal.returns-in-Some-clause-cost
returns-in-Some-clause-cost c = λ k from below.
    let one = c.in-Some.ensures.found in
    let found = c.in-Some.found in
    let sends = c.sends_until.ensures.sends found.number k (MaySend-from_instance found.placed found.number c.args.cycle one.instance) from below in
    worst-found c.args.placed.now c.args.slot c.args.cycle k sends.0 found c.requires.well_placed one sends.1 ∙ sym c.cost.ensures.worst

pub returns-in-None-clause-cost : goal.returns-in-None-clause-cost
returns-in-None-clause-cost c = λ k from below.
    let same : c.args.cycle ≡ k = omega (arith, from, below) in
    subst (λ n. worst_in c.args.placed.now n c.args.slot ≡ 0) same
    (worst-none c.args.placed.now c.args.slot c.args.cycle c.requires.well_placed c.in-None.ensures.found)
