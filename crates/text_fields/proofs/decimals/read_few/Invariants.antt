-- what is left to read, behind the digits so far, writes the field's number, and the digits so far fit
use Rattle.std.proofs.Common.{◌≡◌, ◌<◌, ◌^◌, drop}
use Rattle.text_fields.proofs.CsvFields.{decimal_from}
use Rattle.text_fields.proofs.decimals.read_few.Given as goal

abbrev pub invariant-loop-byte : goal.invariant-loop-byte
invariant-loop-byte l = (l.number < 10 ^ l.byte-index) × (decimal_from l.number (drop l.byte-index l.field) ≡ decimal_from 0 l.field)
