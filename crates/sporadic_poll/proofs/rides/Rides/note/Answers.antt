use Rattle.std.proofs.Common.{◌≡◌, ◌<◌, ◌+◌, length, set, Some, ap, ◌∙◌}
use Rattle.sporadic_poll.specs.declared.fate.Fate.TheVariants.{Sent}
use Rattle.sporadic_poll.specs.Rides.{Riding, noted, taken_in}
use Rattle.sporadic_poll.proofs.Carried.{sent_keeps}
use Rattle.sporadic_poll.proofs.rides.Rides.note.Goals as goal

pub returns-in-Some-clause-noted : goal.returns-in-Some-clause-noted
returns-in-Some-clause-noted c = λ carried ridden.
    let ride = c.in-Some.ride in
    let fates = c.self.inside.fates.items in
    let taken : taken_in fates ride.place ≡ Some ride.release = rw (← c.self.view_is) at (c.in-Some.ensures.taken carried ridden) in
    let below : ride.place < length c.self.inside.queues.streams = rw (← c.self.view_is) at c.in-Some.ensures.inside in
    let inside : ride.place < length fates = rw (← c.self.invariant.each) at below in
    let same = c.in-Some.ensures.ride carried ridden in
    let known = rw (← c.self.view_is) at ridden in (
      λ slot within. sent_keeps slot slot c.args.cycle (c.args.cycle + 1) (carried slot) c.self.inside.queues c.self.inside.latest.items fates ride taken inside (known slot within),
      ap (λ (v : Riding). set v.fates ride.place (Sent ride.release c.args.cycle)) c.self.view_is ∙ ap (noted c.args.cycle c.args.self.now.fates) same,
    )
