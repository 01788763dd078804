use Rattle.std.proofs.Common.{◌≡◌, None, refl, sym, subst, arith}
use Rattle.live_node.specs.Live.{AreWaiting, box_of, pushed}
use Rattle.live_node.proofs.Boxes.{own-found}
use Rattle.live_node.proofs.Tickets.{with_box-waiting}
use Rattle.live_node.proofs.node.LiveNode.put.Goals as goal

pub returns-in_default : goal.returns-in_default
returns-in_default c =
    let none : box_of c.args.self.now.mail c.args.frame.now.identifier ≡ None = grind arith in
    record { put = (λ own. own-found c.args.self.now.mail c.args.frame.now.identifier own none, refl) }

pub invariant_of-self : goal.invariant_of-self
invariant_of-self c = record {
  waiting = subst AreWaiting (sym c.push_at.ensures.pushed)
      (with_box-waiting (pushed c.args.frame.now) c.args.frame.now.identifier (λ b. refl) c.self.inside.mail.items c.self.invariant.waiting);
  room = c.self.invariant.room;
}
