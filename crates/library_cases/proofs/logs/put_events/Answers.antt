use Rattle.std.proofs.Common.{[], refl, arith}
use Rattle.library_cases.proofs.logs.put_events.Goals as goal

pub event_rows-requires-2-clause-frames : goal.event_rows-requires-2-clause-frames
event_rows-requires-2-clause-frames c = record {
  trigger = record { start = 1000; len = 126; frame = c.encode-frame.result };
  later = [];
  frames_are = refl;
  width = 55;
  wide = omega arith;
  says = c.encode-frame.ensures.frame;
  others = λ k d within. absurd (omega arith);
}
