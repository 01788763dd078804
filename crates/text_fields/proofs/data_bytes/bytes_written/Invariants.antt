use Rattle.std.proofs.Common.{◌≡◌, ◌+◌, ◌*◌, ◌++◌, length, take}
use Rattle.std.specs.Char.{is_ascii_hexdigit}
use Rattle.std.specs.List.{list_all}
use Rattle.text_fields.specs.ByteText.{bytes_written}
use Rattle.text_fields.proofs.data_bytes.bytes_written.Given as goal

-- the bytes so far, and then those that the digits left write, are those of all digits
abbrev pub invariant-loop-left : goal.invariant-loop-left
invariant-loop-left l =
    record {
      room : length l.bytes ≡ 8;
      few : 2 * l.count + length l.left ≡ length l.field;
      all : list_all is_ascii_hexdigit l.left ≡ list_all is_ascii_hexdigit l.field;
      written : take l.count l.bytes ++ bytes_written l.left ≡ bytes_written l.fn.field;
    }

abbrev pub decreases-loop-left : goal.decreases-loop-left
decreases-loop-left l = length l.left
