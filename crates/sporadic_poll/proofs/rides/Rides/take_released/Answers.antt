use Rattle.std.proofs.Common.{◌≡◌, length, ap, ◌∙◌, arith}
use Rattle.sporadic_poll.specs.Rides.{Riding}
use Rattle.sporadic_poll.proofs.Rounds.{taking-all, taking-first, taking-more}
use Rattle.sporadic_poll.proofs.rides.Rides.take_released.Goals as goal

pub loop-slot-init : goal.loop-slot-init
loop-slot-init c = taking-first c.args.time c.args.cycle c.args.placed.now c.args.self.now

pub loop-slot-preserved : goal.loop-slot-preserved
loop-slot-preserved c =
    let count : c.slots-slot-end.result ≡ length c.args.self.now.queued.next = c.slots-slot-end.ensures.value ∙ ap (λ (v : Riding). length v.queued.next) c.self.view_is in
    taking-more c.args.time c.args.cycle c.args.placed.now c.args.self.now c.loop-slot.self c.take_of.new.self c.loop-slot.slot
    (omega (arith, c.loop-slot-test.true, c.slots-slot-end.ensures.value, c.self.invariant.few))
    (omega (arith, c.loop-slot-test.true, count, c.loop-slot.invariant.slots))
    c.loop-slot.invariant c.take_of.ensures.streams c.take_of.ensures.slots c.take_of.ensures.taken c.take_of.ensures.others

pub returns-clause-taken : goal.returns-clause-taken
returns-clause-taken c =
    let count : c.slots-slot-end.result ≡ length c.args.self.now.queued.next = c.slots-slot-end.ensures.value ∙ ap (λ (v : Riding). length v.queued.next) c.self.view_is in
    taking-all c.args.time c.args.cycle c.args.placed.now c.args.self.now c.loop-slot.self c.loop-slot.slot (omega (arith, c.loop-slot-test.false, count)) c.loop-slot.invariant
