use Rattle.std.proofs.Common.{◌<◌, Option, length, refl, sym, subst}
use Rattle.std.specs.Prelude.{IsSomeAnd}
use Rattle.std.proofs.lemmas.Bool.{false≢true, lt-ltb, ltb-false, ltb-true}
use Rattle.std.proofs.lemmas.Option.{slice_get_past, slice_get_read}
use Rattle.sporadic_poll.specs.declared.stream.Stream.{Stream}
use Rattle.sporadic_poll.proofs.Taken.{from_late, from_past}
use Rattle.sporadic_poll.proofs.queues.has_arrived.Goals as goal

pub returns-then-next-streams : goal.returns-then-next-streams
returns-then-next-streams c =
    record {
      arrived = (
        λ early. absurd (false≢true early),
        λ some. absurd (subst (λ (found : Option Stream). IsSomeAnd found (λ stream. stream.at < c.args.time))
            (slice_get_past c.args.streams.now c.args.next c.if-next-streams.true) some),
      );
      none = λ _ entry_length. sym (from_past c.args.streams.now c.args.time entry_length c.args.next c.if-next-streams.true);
    }

pub returns : goal.returns
returns c =
    let stream = c.index-streams-next.result in
    let at = slice_get_read c.args.streams.now (length c.args.streams.now) c.args.next stream refl c.if-next-streams.false c.index-streams-next.is in
    record {
      arrived = (
        λ early. subst (λ (found : Option Stream). IsSomeAnd found (λ s. s.at < c.args.time)) (sym at)
            (ltb-true _ _ (rw (← c.index-streams-next.is) at early)),
        λ some. let before : stream.at < c.args.time = subst (λ (found : Option Stream). IsSomeAnd found (λ s. s.at < c.args.time)) at some in
            rw (← c.index-streams-next.is) (lt-ltb _ _ before),
      );
      none = λ late entry_length. sym (from_late c.args.streams.now c.args.time entry_length c.args.next stream at (ltb-false _ _ (rw (← c.index-streams-next.is) at late)));
    }
