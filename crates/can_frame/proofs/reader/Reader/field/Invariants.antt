-- The bits so far are those of the value, and the last of them is one of the plain part.
use Rattle.std.proofs.Common.{◌^◌, ◌<◌}
use Rattle.stuff_bound.specs.Fields.{bits}
use Rattle.can_frame.specs.Progress.{Went, EndsPlain}
use Rattle.can_frame.proofs.reader.Reader.field.Given as goal

abbrev pub invariant-loop : goal.invariant-loop
invariant-loop l = record {
  went : Went l.initial.self l.self (bits l.counter l.value);
  below : l.value < 2 ^ l.counter;
  last : 0 < l.counter → EndsPlain l.self.read;
}
