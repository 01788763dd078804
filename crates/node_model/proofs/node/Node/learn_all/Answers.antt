use Rattle.std.proofs.Common.{ap, ◌∙◌, arith, true}
use Rattle.node_model.specs.Node.{NodeState}
use Rattle.node_model.proofs.Known.{kept-few, kept_of-all}
use Rattle.node_model.proofs.node.Node.learn_all.Goals as goal

pub returns-clause-learnt : goal.returns-clause-learnt
returns-clause-learnt c =
    let node : NodeState = c.args.self.now.state in
    c.learn_from.ensures.learnt ∙ ap (λ entries. record node { entries = entries }) (kept_of-all node.number c.args.placed.now)

pub learn_from-requires-clause-room : goal.learn_from-requires-clause-room
learn_from-requires-clause-room c =
    omega (arith, c.requires.room, kept-few true c.args.self.now.state.number c.args.placed.now)
