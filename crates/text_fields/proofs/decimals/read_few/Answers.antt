-- No number of fewer than 19 digits is too large for one more.
use Rattle.std.proofs.Common.{◌<◌, ◌^◌, arith}
use Rattle.text_fields.proofs.CsvFields.{few_digits}
use Rattle.text_fields.proofs.decimals.read_few.Goals as goal

pub overflow_mul-number : goal.overflow_mul-number
overflow_mul-number c =
    let small : c.loop-byte.number < 10 ^ 18 = few_digits c.loop-byte.number c.loop-byte.byte-index c.loop-byte.invariant.0 (omega (arith, c.requires.few, c.loop-byte-test.true)) in
    omega (arith, small)

pub overflow_add-number : goal.overflow_add-number
overflow_add-number c =
    let small : c.loop-byte.number < 10 ^ 18 = few_digits c.loop-byte.number c.loop-byte.byte-index c.loop-byte.invariant.0 (omega (arith, c.requires.few, c.loop-byte-test.true)) in
    omega (arith, small, c.from.ensures)
