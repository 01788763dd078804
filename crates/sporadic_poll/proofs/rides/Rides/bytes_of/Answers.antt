use Rattle.std.proofs.Common.{◌<◌, length, refl, ◌∙◌}
use Rattle.std.proofs.lemmas.Option.{slice_get_read}
use Rattle.sporadic_poll.proofs.Carried.{bytes_none, bytes_took}
use Rattle.sporadic_poll.proofs.rides.Rides.bytes_of.Goals as goal

pub returns-in-Some : goal.returns-in-Some
returns-in-Some c = record {
  bytes = λ carried cycle ridden before.
      let stream = c.index-streams-place.result in
      let inside : c.in-Some.place < length c.streams.result.now = rw (← c.streams.ensures.list) at c.in-Some.ensures.inside in
      let at = slice_get_read c.streams.result.now (length c.streams.result.now) c.in-Some.place stream refl inside c.index-streams-place.is in
      c.bytes_of.ensures.bytes
      ∙ bytes_took c.args.self.now.queued.streams c.args.current.now.length c.in-Some.place stream (carried c.args.current.now.release) (c.in-Some.ensures.took carried cycle ridden before)
      (rw c.streams.ensures.list at at);
}

pub returns-in-None : goal.returns-in-None
returns-in-None c = record { bytes = λ carried cycle ridden before. c.none.ensures.bytes ∙ bytes_none c.args.self.now.queued.streams c.args.current.now.length (carried c.args.current.now.release) (c.in-None.ensures.took carried cycle ridden before) }
