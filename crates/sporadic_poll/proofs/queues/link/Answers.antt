use Rattle.std.proofs.Common.{◌≡◌, ◌-◌, length, arith, refl}
use Rattle.sporadic_poll.proofs.Linking.{all_linked, none_linked, set_linked}
use Rattle.sporadic_poll.proofs.queues.link.Goals as goal

pub loop-place-init : goal.loop-place-init
loop-place-init c = none_linked (length c.args.next.now.items) c.args.streams.now c.args.later.now.items c.args.next.now.items c.requires.all_later refl c.requires.none

pub loop-place-preserved : goal.loop-place-preserved
loop-place-preserved c =
    set_linked (length c.args.next.now.items) c.args.streams.now c.loop-place.later.items c.loop-place.next.items c.loop-place.place (c.loop-place.place - 1) c.from-slot.result c.index.result.now c.index-streams-place.result
    c.requires.known c.loop-place.invariant c.loop-place-test.true (omega (arith, c.loop-place.auto.place)) c.index-streams-place.is c.from-slot.ensures c.index.ensures refl

pub returns-clause-linked : goal.returns-clause-linked
returns-clause-linked c =
    let none : c.loop-place.place ≡ 0 = omega (arith, c.loop-place-test.false) in
    all_linked (length c.args.next.now.items) c.args.streams.now c.loop-place.later.items c.loop-place.next.items c.requires.known (rw none at c.loop-place.invariant)
