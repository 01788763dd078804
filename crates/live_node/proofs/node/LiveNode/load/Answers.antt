use Rattle.std.proofs.Common.{◌≡◌, Some, subst, arith}
use Rattle.live_node.specs.Live.{AreWaiting, LiveView}
use Rattle.live_node.specs.Sending.{live_offer}
use Rattle.live_node.proofs.Frames.{offered-due}
use Rattle.live_node.proofs.node.LiveNode.load.Goals as goal

pub are_users-users-requires : goal.are_users-users-requires
are_users-users-requires c =
    let view : LiveView = c.args.self.now in
    let known : AreWaiting view.mail = subst (λ (v : LiveView). AreWaiting v.mail) c.self.view_is c.self.invariant.waiting in
    let offered : live_offer view c.args.into ≡ Some c.args.id = grind arith in
    record { due = λ low. offered-due view c.args.into c.args.id known offered low }

pub fly-requires : goal.fly-requires
fly-requires c =
    let view : LiveView = c.args.self.now in
    let known : AreWaiting view.mail = subst (λ (v : LiveView). AreWaiting v.mail) c.self.view_is c.self.invariant.waiting in
    let offered : live_offer view c.args.into ≡ Some c.args.id = grind arith in
    record { due = λ low. offered-due view c.args.into c.args.id known offered low }
