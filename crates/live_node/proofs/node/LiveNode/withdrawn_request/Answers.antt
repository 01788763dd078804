use Rattle.std.proofs.Common.{false, refl, sym, subst}
use Rattle.live_node.specs.Live.{AreWaiting}
use Rattle.live_node.specs.Tickets.{flying}
use Rattle.live_node.proofs.Tickets.{with_box-waiting}
use Rattle.live_node.proofs.node.LiveNode.withdrawn_request.Goals as goal

pub invariant_of-self : goal.invariant_of-self
invariant_of-self c = record {
  waiting = subst AreWaiting (sym c.fly_at.ensures.flying)
      (with_box-waiting (flying false) c.args.ticket.now.id (λ b. refl) c.self.inside.mail.items c.self.invariant.waiting);
  room = c.self.invariant.room;
}
