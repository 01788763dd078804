use Rattle.std.proofs.Common.{◌≡◌, ◌≤◌, ap, sym, ◌∙◌, subst}
use Rattle.async_window.specs.Mailbox.{IsMail}
use Rattle.node_model.specs.Node.{NodeView}
use Rattle.node_model.proofs.Offers.{offered-mail, no-request}
use Rattle.node_model.proofs.node.Node.may_offer.Goals as goal

pub returns-in-None : goal.returns-in-None
returns-in-None c = record {
  never = λ _ time offered.
      let mail = subst (λ (v : NodeView). IsMail v.state.mail) c.self.view_is c.self.invariant.node.mail in
      let asynchronous : 0x200 ≤ c.args.id = c.if-id-lt-LEAST_ASYNCHRONOUS.false in
      let some = offered-mail c.args.self.now.state time c.args.id mail offered asynchronous in
      let boxes : c.self.inside.mailboxes ≡ c.args.self.now.state.mail = ap (λ (v : NodeView). v.state.mail) c.self.view_is in
      let frame = rw boxes at (sym c.head.ensures.head ∙ c.in-None.is) in
      no-request _ frame some;
}
