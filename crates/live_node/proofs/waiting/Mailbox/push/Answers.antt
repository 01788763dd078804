use Rattle.std.proofs.Common.{◌≡◌, true, sym, ap, ◌∙◌, subst}
use Rattle.live_node.specs.Live.{Waiting, has_room, pushed}
use Rattle.live_node.proofs.Boxes.{as_box, push-is, push-waiting}
use Rattle.live_node.proofs.waiting.Mailbox.push.Goals as goal

pub invariant_of-self : goal.invariant_of-self
invariant_of-self c =
    push-waiting c.self.inside.id c.self.inside.first c.self.inside.loaded c.self.inside.frames c.push_back.new.self c.args.frame.now
    c.push_back.ensures.items (subst (λ (w : Waiting). has_room w ≡ true) (sym c.self.view_is) c.requires.room) c.self.invariant
    (subst (λ (w : Waiting). c.args.frame.now.identifier ≡ w.identifier) (sym c.self.view_is) c.requires.own)

pub returns : goal.returns
returns c = record {
  pushed = push-is c.self.inside.id c.self.inside.first c.self.inside.loaded c.self.inside.frames c.push_back.new.self c.args.frame.now
      c.push_back.ensures.items (subst (λ (w : Waiting). has_room w ≡ true) (sym c.self.view_is) c.requires.room)
      ∙ ap (pushed c.args.frame.now) c.self.view_is;
}
