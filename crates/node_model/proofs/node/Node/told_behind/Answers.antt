use Rattle.std.proofs.Common.{◌≡◌, Some, rules, subst}
use Rattle.std.specs.Prelude.{IfSome}
use Rattle.node_model.specs.Node.{NodeView}
use Rattle.node_model.specs.Ahead.{IsAhead}
use Rattle.node_model.proofs.LookAhead.{next-behind}
use Rattle.node_model.proofs.node.Node.told_behind.Goals as goal

pub returns-then-tells_behind : goal.returns-then-tells_behind
returns-then-tells_behind c =
    let state = c.args.self.now.state in
    let is : c.self.inside.ahead ≡ Some c.in-Some.ahead = search rules in
    let ahead = subst (λ (v : NodeView). IfSome c.self.inside.ahead (IsAhead v.state)) c.self.view_is c.self.invariant.ahead in
    record {
      told = next-behind state c.in-Some.ahead c.args.at (subst (λ found. IfSome found (IsAhead state)) is ahead)
          (c.tells_behind.ensures.since c.if-tells_behind.true) (c.tells_behind.ensures.before c.if-tells_behind.true);
    }
