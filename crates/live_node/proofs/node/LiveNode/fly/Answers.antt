use Rattle.std.proofs.Common.{true, refl, sym, subst, arith}
use Rattle.live_node.specs.Live.{AreWaiting}
use Rattle.live_node.specs.Tickets.{flying}
use Rattle.live_node.proofs.Tickets.{absent-load, with_box-waiting}
use Rattle.live_node.proofs.node.LiveNode.fly.Goals as goal

pub invariant_of-self-in-Some : goal.invariant_of-self-in-Some
invariant_of-self-in-Some c = record {
  waiting = subst AreWaiting (sym c.fly_at.ensures.flying)
      (with_box-waiting (flying true) c.args.id (λ b. refl) c.self.inside.mail.items c.self.invariant.waiting);
  room = c.self.invariant.room;
}

pub returns-in_default : goal.returns-in_default
returns-in_default c = record {
  flying = sym (absent-load c.args.id c.args.self.now (omega (arith, c.if-id-lt-LEAST_ASYNCHRONOUS.false)) (grind arith));
}
