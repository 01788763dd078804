use Rattle.std.proofs.Common.{length, refl, sym}
use Rattle.std.proofs.lemmas.Option.{slice_get_read}
use Rattle.sporadic_poll.proofs.Taken.{from_carry, from_late, from_long, from_past}
use Rattle.sporadic_poll.proofs.queues.taken_from.Goals as goal

pub returns-then-next-streams-clause-value : goal.returns-then-next-streams-clause-value
returns-then-next-streams-clause-value c = from_past c.args.streams.now c.args.time c.args.entry_length c.args.next c.if-next-streams.true

pub returns-then-stream-time-clause-value : goal.returns-then-stream-time-clause-value
returns-then-stream-time-clause-value c =
    let stream = c.index-streams-next.result in
    let at = slice_get_read c.args.streams.now (length c.args.streams.now) c.args.next stream refl c.if-next-streams.false c.index-streams-next.is in
    from_late c.args.streams.now c.args.time c.args.entry_length c.args.next stream at c.if-stream-time.true

pub returns-then-as_slice-from-clause-value : goal.returns-then-as_slice-from-clause-value
returns-then-as_slice-from-clause-value c =
    let stream = c.index-streams-next.result in
    let at = slice_get_read c.args.streams.now (length c.args.streams.now) c.args.next stream refl c.if-next-streams.false c.index-streams-next.is in
    from_long c.args.streams.now c.args.time c.args.entry_length c.args.next stream at (rw (c.from.ensures, c.as_slice.ensures.list) at c.if-as_slice-from.true)

pub returns-clause-value : goal.returns-clause-value
returns-clause-value c =
    let stream = c.index-streams-next.result in
    let at = slice_get_read c.args.streams.now (length c.args.streams.now) c.args.next stream refl c.if-next-streams.false c.index-streams-next.is in
    sym (from_carry c.args.streams.now c.args.time c.args.entry_length c.args.next stream at (record {
      arrived = c.if-stream-time.false;
      short = rw (c.from.ensures, c.as_slice.ensures.list) at c.if-as_slice-from.false;
    }))
