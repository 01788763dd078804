use Rattle.std.proofs.Common.{◌≡◌, Some, subst, arith}
use Rattle.live_node.specs.Live.{AreWaiting, LiveView}
use Rattle.live_node.specs.Sending.{live_offer}
use Rattle.live_node.proofs.Frames.{offered-due, offered-first}
use Rattle.live_node.proofs.node.LiveNode.frame.Goals as goal

pub frame_under-requires-clause-due : goal.frame_under-requires-clause-due
frame_under-requires-clause-due c =
    let view : LiveView = c.args.self.now in
    let known : AreWaiting view.mail = subst (λ (v : LiveView). AreWaiting v.mail) c.self.view_is c.self.invariant.waiting in
    let offered : live_offer view c.args.into ≡ Some c.args.id = grind arith in
    λ low. offered-due view c.args.into c.args.id known offered low

pub frame_under-requires-clause-some : goal.frame_under-requires-clause-some
frame_under-requires-clause-some c =
    let view : LiveView = c.args.self.now in
    let known : AreWaiting view.mail = subst (λ (v : LiveView). AreWaiting v.mail) c.self.view_is c.self.invariant.waiting in
    let offered : live_offer view c.args.into ≡ Some c.args.id = grind arith in
    λ high. offered-first view c.args.into c.args.id known offered high
