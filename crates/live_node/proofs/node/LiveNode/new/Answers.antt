use Rattle.std.proofs.Common.{arith}
use Rattle.live_node.proofs.Fresh.{fresh-waiting}
use Rattle.live_node.proofs.node.LiveNode.new.Goals as goal

pub invariant_of-result : goal.invariant_of-result
invariant_of-result c = record {
  waiting = fresh-waiting c.args.settings.now.room c.args.number c.args.owners.now c.in_ok-mail.mail.items c.in_ok-mail.ensures.empty
      c.requires.owners;
  room = grind arith;
}
