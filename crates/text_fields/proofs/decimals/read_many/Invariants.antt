-- what is left to read, behind the digits so far, writes the field's number
use Rattle.std.proofs.Common.{◌≡◌, ◌<◌, ◌^◌, length}
use Rattle.text_fields.proofs.CsvFields.{decimal_from}
use Rattle.text_fields.proofs.decimals.read_many.Given as goal

abbrev pub invariant-loop-left : goal.invariant-loop-left
invariant-loop-left l = (l.number < 2 ^ 64) × (decimal_from l.number l.left ≡ decimal_from 0 l.fn.field)

abbrev pub decreases-loop-left : goal.decreases-loop-left
decreases-loop-left l = length l.left
