use Rattle.std.proofs.Common.{refl, sym, subst}
use Rattle.live_node.specs.Live.{AreWaiting}
use Rattle.live_node.specs.Tickets.{without_first}
use Rattle.live_node.proofs.Tickets.{with_box-waiting}
use Rattle.live_node.proofs.node.LiveNode.withdraw.Goals as goal

pub invariant_of-self : goal.invariant_of-self
invariant_of-self c = record {
  waiting = subst AreWaiting (sym c.pop_at.ensures.popped)
      (with_box-waiting without_first c.args.id (λ b. refl) c.self.inside.mail.items c.self.invariant.waiting);
  room = c.self.invariant.room;
}
