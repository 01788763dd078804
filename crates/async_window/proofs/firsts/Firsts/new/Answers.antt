use Rattle.async_window.specs.Tournament.{arrival_within, first_length}
use Rattle.async_window.proofs.Telling.{Tell-more}
use Rattle.async_window.proofs.firsts.Firsts.new.Goals as goal

pub loop-place-preserved : goal.loop-place-preserved
loop-place-preserved c = record {
  arrive = Tell-more c.loop-place.place (arrival_within 8) c.args.boxes.now c.loop-place.made.arrivals c.note.new.self.arrivals
      c.note.ensures.arrivals c.loop-place.invariant.arrive;
  long = Tell-more c.loop-place.place first_length c.args.boxes.now c.loop-place.made.lengths c.note.new.self.lengths
      c.note.ensures.lengths c.loop-place.invariant.long;
}
