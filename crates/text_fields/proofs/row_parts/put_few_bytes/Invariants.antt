use Rattle.std.proofs.Common.{◌≡◌, ◌+◌, ◌-◌, ◌*◌, ◌++◌, drop, length}
use Rattle.std.specs.List.{flat_map}
use Rattle.text_fields.specs.Hexadecimal.{hex_digits}
use Rattle.text_fields.proofs.row_parts.put_few_bytes.Given as goal

-- the bytes from this place on stand
abbrev pub invariant-loop-place : goal.invariant-loop-place
invariant-loop-place g l = record {
  bytes : drop l.start l.row ≡ flat_map (hex_digits 2) (drop l.place l.bytes) ++ drop l.end l.initial.row;
  size : l.start + 2 * (length l.bytes - l.place) ≡ l.end;
}
