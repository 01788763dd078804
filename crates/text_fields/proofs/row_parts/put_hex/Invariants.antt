use Rattle.std.proofs.Common.{◌≡◌, ◌+◌, ◌-◌, ◌*◌, ◌++◌, drop}
use Rattle.text_fields.specs.Hexadecimal.{hex_digits}
use Rattle.text_fields.proofs.row_parts.put_hex.Given as goal

-- the digits that are left, and then those that stand, are all digits
abbrev pub invariant-loop : goal.invariant-loop
invariant-loop g l = record {
  digits : hex_digits (l.digits - 2 * l.counter) l.left ++ drop l.start l.row ≡ hex_digits l.digits l.number ++ drop l.end-2 l.initial.row;
  size : l.start + 2 * l.counter ≡ l.end-2;
}
