-- The data bytes so far stand behind the other fields.
use Rattle.std.proofs.Common.{◌≡◌, ◌+◌, ◌*◌, ◌++◌, length, take}
use Rattle.std.specs.List.{flat_map}
use Rattle.stuff_bound.specs.Fields.{bits}
use Rattle.can_frame.proofs.wire_bits.covered_bits.Given as goal

abbrev pub invariant-loop-place : goal.invariant-loop-place
invariant-loop-place l = record {
  pushed : l.list ≡ l.initial.list ++ flat_map (bits 8) (take l.place l.frame.bytes);
  len : length l.list ≡ 19 + 8 * l.place;
}
