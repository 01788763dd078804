use Rattle.std.proofs.Common.{ℕ, suc, ◌-◌, ◌/◌, length, get_or, arith}
use Rattle.async_window.proofs.Levels.{IsOnTheWay-below}
use Rattle.async_window.proofs.Trees.{IsFirstLeaf, few-nodes, first-leaf_half, half, tree-lesser, two-below}
use Rattle.async_window.proofs.tournament.descend.Goals as goal
use Rattle.async_window.proofs.tournament.descend.Goals.{After-loop}

pub loop-init : goal.loop-init
loop-init c rest is = grind arith

pub below-step-requires-clause-below : goal.below-step-requires-clause-below
below-step-requires-clause-below c =
    let rest : ℕ = c.args.levels - c.loop.counter - 1 in
    let way = c.loop.invariant (suc rest) (omega (arith, c.loop-test.true)) in
    two-below c.args.levels c.args.nodes.now c.requires.tree rest c.loop.step.node way.above

pub below-step-requires-clause-few : goal.below-step-requires-clause-few
below-step-requires-clause-few c = few-nodes c.args.levels c.args.nodes.now c.requires.tree

pub loop-preserved : goal.loop-preserved
loop-preserved c rest is =
    IsOnTheWay-below (λ node. get_or c.args.nodes.now node 0) c.args.levels (tree-lesser c.args.levels c.args.nodes.now c.requires.tree)
    c.args.bound rest c.loop.step.node c.loop.step.sooner c.below-step.result.node c.below-step.result.sooner
    (c.loop.invariant (suc rest) (omega (arith, is))) c.below-step.ensures.left c.below-step.ensures.right

-- where the way ended
ended : (c : After-loop)
    → IsFirstLeaf c.args.levels c.args.nodes.now c.requires.tree c.args.bound (c.loop.step.node - length c.args.nodes.now / 2)
    c.loop.step.sooner
ended c =
    first-leaf_half c.args.levels c.args.nodes.now c.requires.tree c.args.bound c.loop.step.node c.loop.step.sooner
    (length c.args.nodes.now / 2) (half c.args.levels c.args.nodes.now c.requires.tree)
    (c.loop.invariant 0 (omega (arith, c.loop-test.false, c.loop.auto)))

pub overflow_sub-result : goal.overflow_sub-result
overflow_sub-result c =
    let way = c.loop.invariant 0 (omega (arith, c.loop-test.false, c.loop.auto)) in
    omega (arith, way.above.starts, half c.args.levels c.args.nodes.now c.requires.tree)

pub returns-clause-within : goal.returns-clause-within
returns-clause-within c = (ended (goal.at.returns-clause-within c).After-loop).within

pub returns-clause-here : goal.returns-clause-here
returns-clause-here c = (ended (goal.at.returns-clause-here c).After-loop).here

pub returns-clause-later : goal.returns-clause-later
returns-clause-later c = (ended (goal.at.returns-clause-later c).After-loop).later

pub returns-clause-before : goal.returns-clause-before
returns-clause-before c = (ended (goal.at.returns-clause-before c).After-loop).before
