use Rattle.std.proofs.Common.{◌<◌, ◌∙◌, Some, None, length, get_or}
use Rattle.sporadic_poll.proofs.Linking.{next_is, read_at, taken_linked, there}
use Rattle.sporadic_poll.proofs.Taken.{take_step}
use Rattle.sporadic_poll.proofs.queues.Queues.take.Goals as goal

pub invariant_of-self : goal.invariant_of-self
invariant_of-self c =
    let known : c.args.slot < length c.self.inside.next.items = rw (← c.self.view_is) at c.requires.known in
    let here = read_at c.self.inside.next.items c.from.result c.args.slot c.index-next.result.now c.index-next.ensures c.from.ensures known in
    let same = c.in-Some.ensures.same in
    let inside : c.in-Some.place < length c.self.inside.streams.items = rw (c.as_slice.ensures.value, ← same.0) at same.1 in
    taken_linked c.self.inside.streams.items c.self.inside.later.items c.self.inside.next.items c.args.slot c.in-Some.place c.from-in-Some.result c.index.result.now
    c.self.invariant known (same.0 ∙ here) inside c.from-in-Some.ensures c.index.ensures

pub returns-in-None-clause-ride : goal.returns-in-None-clause-ride
returns-in-None-clause-ride c = rw (← c.self.view_is) (λ layout_cycle cycle lengths carried ride taken released at.
    let known : c.args.slot < length c.self.inside.next.items = rw (← c.self.view_is) at c.requires.known in
    let here = read_at c.self.inside.next.items c.from.result c.args.slot c.index-next.result.now c.index-next.ensures c.from.ensures known in
    take_step c.self.inside.streams.items c.args.slot carried layout_cycle lengths cycle c.args.time (get_or c.self.inside.next.items c.args.slot 0) c.args.entry_length None
    ride taken released at (rw (c.as_slice.ensures.value, here) at c.in-None.ensures.value))

pub returns-in-Some-clause-ride : goal.returns-in-Some-clause-ride
returns-in-Some-clause-ride c = rw (← c.self.view_is) (λ layout_cycle cycle lengths carried ride taken released at.
    let streams = c.self.inside.streams.items in
    let known : c.args.slot < length c.self.inside.next.items = rw (← c.self.view_is) at c.requires.known in
    let here = read_at c.self.inside.next.items c.from.result c.args.slot c.index-next.result.now c.index-next.ensures c.from.ensures known in
    let same = c.in-Some.ensures.same in
    let inside : c.in-Some.place < length streams = rw (c.as_slice.ensures.value, ← same.0) at same.1 in
    let next = next_is streams c.self.inside.later.items c.self.inside.next.items c.args.slot c.in-Some.place c.from-in-Some.result c.index.result.now
    c.self.invariant known (same.0 ∙ here) inside c.from-in-Some.ensures c.index.ensures in
    rw next (take_step streams c.args.slot carried layout_cycle lengths cycle c.args.time (get_or c.self.inside.next.items c.args.slot 0) c.args.entry_length (Some c.in-Some.place)
    ride taken released at (rw (c.as_slice.ensures.value, here) at c.in-Some.ensures.value)))

pub returns-in-Some-clause-its_slot : goal.returns-in-Some-clause-its_slot
returns-in-Some-clause-its_slot c =
    let streams = c.self.inside.streams.items in
    let known : c.args.slot < length c.self.inside.next.items = rw (← c.self.view_is) at c.requires.known in
    let here = read_at c.self.inside.next.items c.from.result c.args.slot c.index-next.result.now c.index-next.ensures c.from.ensures known in
    let same = c.in-Some.ensures.same in
    let inside : c.in-Some.place < length streams = rw (c.as_slice.ensures.value, ← same.0) at same.1 in
    rw (← c.self.view_is) (there streams c.self.inside.later.items c.self.inside.next.items c.args.slot c.in-Some.place c.from-in-Some.result c.index.result.now
    c.self.invariant known (same.0 ∙ here) inside c.from-in-Some.ensures c.index.ensures)
