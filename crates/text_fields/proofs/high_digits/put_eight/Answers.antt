use Rattle.std.proofs.Common.{◌≡◌, drop, length, arith}
use Rattle.text_fields.proofs.LowDigits.{byte-put, none-stand}
use Rattle.text_fields.proofs.high_digits.put_eight.Goals as goal

pub returns-clause-row : goal.returns-clause-row
returns-clause-row g c =
    let bytes = c.args.bytes.now in
    let xs = drop c.args.end c.args.row.now in
    let size : length bytes ≡ 8 = c.told-bytes in
    byte-put bytes xs _ _ 0 _ (omega (arith, size)) c.put_byte.ensures.row (
    byte-put bytes xs _ _ 1 _ (omega (arith, size)) c.put_byte-start-7.ensures.row (
    byte-put bytes xs _ _ 2 _ (omega (arith, size)) c.put_byte-start-6.ensures.row (
    byte-put bytes xs _ _ 3 _ (omega (arith, size)) c.put_byte-start-5.ensures.row (
    byte-put bytes xs _ _ 4 _ (omega (arith, size)) c.put_byte-start-4.ensures.row (
    byte-put bytes xs _ _ 5 _ (omega (arith, size)) c.put_byte-start-3.ensures.row (
    byte-put bytes xs _ _ 6 _ (omega (arith, size)) c.put_byte-start-2.ensures.row (
    byte-put bytes xs _ _ 7 _ (omega (arith, size)) c.put_byte-start.ensures.row (
    none-stand bytes xs 8 (omega (arith, size))))))))))
