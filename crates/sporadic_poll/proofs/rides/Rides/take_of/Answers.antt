use Rattle.std.proofs.Common.{◌<◌, length, refl}
use Rattle.sporadic_poll.proofs.Riding.{fresh, other_takes, same_sent, same_sent-refl, takes_elsewhere, takes_none, takes_one}
use Rattle.sporadic_poll.proofs.rides.Rides.take_of.Goals as goal

pub returns-in-Some-clause-taken : goal.returns-in-Some-clause-taken
returns-in-Some-clause-taken c = rw (← c.self.view_is, c.from.ensures) (λ layout_cycle lengths carried at ride released ridden.
    let old = c.self.inside.queues in
    let new = c.take_from.new.queues in
    let fates = c.self.inside.fates.items in
    let latest = c.self.inside.latest.items in
    let known : c.args.slot < length old.next = rw (← c.self.view_is) at c.requires.known in
    let inside : c.in-Some.place < length fates = rw (← c.self.invariant.each) at c.in-Some.ensures.inside in
    let room : c.args.slot < length latest = rw (← c.self.invariant.slots) at known in
    let it = c.in-Some.ensures.ride layout_cycle lengths carried at ride released ridden.taken in (
      takes_one c.args.slot carried old new c.in-Some.ensures.streams c.args.cycle c.in-Some.place latest fates ridden it.1 it.0 c.in-Some.ensures.its_slot c.in-Some.ensures.next inside room,
      same_sent fates c.in-Some.place c.args.cycle
          (λ release. fresh c.args.slot carried old new c.in-Some.ensures.streams c.args.cycle latest fates c.in-Some.place release ridden c.in-Some.ensures.next c.in-Some.ensures.its_slot) inside,
    ))

pub returns-in-Some-clause-others : goal.returns-in-Some-clause-others
returns-in-Some-clause-others c = rw (← c.self.view_is, c.from.ensures) (λ other since carried apart ridden.
    other_takes c.args.slot other since c.args.cycle c.in-Some.place carried c.self.inside.queues c.take_from.new.queues c.self.inside.latest.items c.self.inside.fates.items
    c.in-Some.ensures.streams (c.in-Some.ensures.others other apart) apart c.in-Some.ensures.its_slot ridden)

pub returns-in_default-clause-taken : goal.returns-in_default-clause-taken
returns-in_default-clause-taken c = rw (← c.self.view_is) (λ layout_cycle lengths carried at ride released ridden.
    let it = c.in_default.ensures.ride layout_cycle lengths carried at ride released ridden.taken in (
      takes_none c.args.slot carried c.self.inside.queues c.take_from.new.queues c.in_default.ensures.streams c.args.cycle c.self.inside.latest.items c.self.inside.fates.items ridden it.1 it.0,
      same_sent-refl c.self.inside.fates.items,
    ))

pub returns-in_default-clause-others : goal.returns-in_default-clause-others
returns-in_default-clause-others c = rw (← c.self.view_is) (λ other since carried apart ridden.
    takes_elsewhere other since carried _ _ c.in_default.ensures.streams (c.in_default.ensures.others other apart) refl (λ _ _. refl) ridden)
