use Rattle.std.proofs.Common.{ap, ◌∙◌, length, sym, subst, ◌≤◌}
use Rattle.node_model.specs.Node.{NodeState}
use Rattle.node_model.proofs.Known.{kept_of-own}
use Rattle.node_model.proofs.node.Node.learn_own.Goals as goal

pub returns-clause-learnt : goal.returns-clause-learnt
returns-clause-learnt c =
    let node : NodeState = c.args.self.now.state in
    c.learn_from.ensures.learnt ∙ ap (λ entries. record node { entries = entries }) (kept_of-own node.number c.args.placed.now)

pub learn_from-requires-clause-room : goal.learn_from-requires-clause-room
learn_from-requires-clause-room c =
    subst (λ kept. length kept ≤ c.args.self.now.spare) (sym (kept_of-own c.args.self.now.state.number c.args.placed.now)) c.requires.room
