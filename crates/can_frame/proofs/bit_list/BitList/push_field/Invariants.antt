-- The bits above `place` stand behind those that were there.
use Rattle.std.proofs.Common.{◌≡◌, ◌+◌, ◌-◌, ◌/◌, ◌^◌, ◌++◌, length}
use Rattle.stuff_bound.specs.Fields.{bits}
use Rattle.can_frame.proofs.bit_list.BitList.push_field.Given as goal

abbrev pub invariant-loop-place : goal.invariant-loop-place
invariant-loop-place l = record {
  grown : length l.self + l.place ≡ length l.initial.self + l.width;
  pushed : l.self ≡ l.initial.self ++ bits (l.width - l.place) (l.value / 2 ^ l.place);
}
