use Rattle.std.proofs.Common.{rules, ◌≡◌, Some}
use Rattle.node_model.proofs.DueBehind.{due-heard, instances-heard}
use Rattle.node_model.proofs.due.mark_slots.Goals as goal

pub returns-in-Some-clause-due : goal.returns-in-Some-clause-due
returns-in-Some-clause-due c =
    let is : c.args.opened.now ≡ Some c.in-Some.open_cycle = search rules in
    due-heard c.args.opened.now c.in-Some.open_cycle c.union-open_cycle.result c.difference-open_cycle.result c.args.heard
    is c.union-open_cycle.ensures.set (λ slot _. c.difference-open_cycle.ensures.slots slot)

pub returns-in-Some-clause-instances : goal.returns-in-Some-clause-instances
returns-in-Some-clause-instances c =
    let is : c.args.opened.now ≡ Some c.in-Some.open_cycle = search rules in
    instances-heard c.args.opened.now c.in-Some.open_cycle c.difference-open_cycle.result c.args.heard is c.difference-open_cycle.ensures.slots
