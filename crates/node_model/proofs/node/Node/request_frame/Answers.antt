use Rattle.std.proofs.Common.{◌≡◌, ap, sym, ◌∙◌, subst, slice_get}
use Rattle.async_window.specs.Mailbox.{IsMail, unsent_of}
use Rattle.node_model.specs.Node.{NodeView}
use Rattle.node_model.proofs.Mail.{frame-is, first-identifier}
use Rattle.node_model.proofs.Offers.{offered-mail, no-request, node_frame-mail}
use Rattle.node_model.proofs.node.Node.request_frame.Goals as goal

pub unreachable-requires : goal.unreachable-requires
unreachable-requires c =
    let mail = subst (λ (v : NodeView). IsMail v.state.mail) c.self.view_is c.self.invariant.node.mail in
    let some = offered-mail c.args.self.now.state c.args.at c.args.id mail c.requires.offered c.requires.asynchronous in
    let boxes : c.self.inside.mailboxes ≡ c.args.self.now.state.mail = ap (λ (v : NodeView). v.state.mail) c.self.view_is in
    let frame = rw boxes at (sym c.head.ensures.head ∙ c.in-None.is) in
    no-request _ frame some

pub returns : goal.returns
returns c =
    let mail = subst (λ (v : NodeView). IsMail v.state.mail) c.self.view_is c.self.invariant.node.mail in
    let boxes : c.self.inside.mailboxes ≡ c.args.self.now.state.mail = ap (λ (v : NodeView). v.state.mail) c.self.view_is in
    let head = rw boxes at (sym c.in-Some.is ∙ c.head.ensures.head) in
    record {
      frame = node_frame-mail c.args.self.now.state c.args.at c.args.id c.in-Some.frame c.requires.asynchronous
          (frame-is c.in-Some.frame c.args.id (slice_get (unsent_of c.args.self.now.state.mail c.args.id) 0) head
          (λ request. first-identifier c.args.id c.args.self.now.state.mail request mail.own));
    }
