use Rattle.std.proofs.Common.{◌≡◌, ◌^◌, ◌<◌, true, take}
use Rattle.std.specs.List.{list_all}
use Rattle.std.specs.Str.Parse.{digits_value}
use Rattle.text_fields.specs.Hexadecimal.{is_hex_digit}
use Rattle.text_fields.proofs.hexadecimal.read_word.Given as goal

abbrev pub invariant-loop-byte : goal.invariant-loop-byte
invariant-loop-byte l = record {
  all : list_all is_hex_digit (take l.byte-index l.digits) ≡ true;
  so_far : l.number ≡ digits_value 16 (take l.byte-index l.digits);
  small : l.number < 16 ^ l.byte-index;
}
