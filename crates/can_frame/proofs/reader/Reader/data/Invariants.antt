-- The bytes so far were read.
use Rattle.std.proofs.Common.{◌≡◌, length, take}
use Rattle.std.specs.List.{flat_map}
use Rattle.stuff_bound.specs.Fields.{bits}
use Rattle.can_frame.specs.Progress.{Went}
use Rattle.can_frame.proofs.reader.Reader.data.Given as goal

abbrev pub invariant-loop-place : goal.invariant-loop-place
invariant-loop-place l = record {
  room : length l.bytes ≡ 8;
  went : Went l.initial.self l.self (flat_map (bits 8) (take l.place l.bytes));
}
