use Rattle.std.proofs.Common.{◌≡◌, Some, rules, subst}
use Rattle.std.specs.Prelude.{IfSome}
use Rattle.node_model.specs.Node.{NodeView}
use Rattle.node_model.specs.Ahead.{IsAhead}
use Rattle.node_model.proofs.LookAhead.{told-all}
use Rattle.node_model.proofs.node.Node.foreseen.Goals as goal

pub returns-in-Some-clause-foreseen : goal.returns-in-Some-clause-foreseen
returns-in-Some-clause-foreseen c =
    let state = c.args.self.now.state in
    let is : c.self.inside.ahead ≡ Some c.in-Some.ahead = search rules in
    let ahead = subst (λ (v : NodeView). IfSome c.self.inside.ahead (IsAhead v.state)) c.self.view_is c.self.invariant.ahead in
    told-all state c.in-Some.ahead c.args.at c.offer_at.result (subst (λ found. IfSome found (IsAhead state)) is ahead)
    c.offer_at.ensures.told
