use Rattle.std.proofs.Common.{◌≡◌, drop, length, arith}
use Rattle.text_fields.proofs.LowDigits.{byte-put, none-stand}
use Rattle.text_fields.proofs.data_digits.put_sixteen.Goals as goal

pub returns-clause-row : goal.returns-clause-row
returns-clause-row g c =
    let bytes = c.args.bytes.now in
    let xs = drop c.args.end c.args.row.now in
    let size : length bytes ≡ 16 = c.told-bytes in
    byte-put bytes xs _ _ 0 _ (omega (arith, size)) c.put_byte.ensures.row (
    byte-put bytes xs _ _ 1 _ (omega (arith, size)) c.put_byte-start-15.ensures.row (
    byte-put bytes xs _ _ 2 _ (omega (arith, size)) c.put_byte-start-14.ensures.row (
    byte-put bytes xs _ _ 3 _ (omega (arith, size)) c.put_byte-start-13.ensures.row (
    byte-put bytes xs _ _ 4 _ (omega (arith, size)) c.put_byte-start-12.ensures.row (
    byte-put bytes xs _ _ 5 _ (omega (arith, size)) c.put_byte-start-11.ensures.row (
    byte-put bytes xs _ _ 6 _ (omega (arith, size)) c.put_byte-start-10.ensures.row (
    byte-put bytes xs _ _ 7 _ (omega (arith, size)) c.put_byte-start-9.ensures.row (
    byte-put bytes xs _ _ 8 _ (omega (arith, size)) c.put_byte-start-8.ensures.row (
    byte-put bytes xs _ _ 9 _ (omega (arith, size)) c.put_byte-start-7.ensures.row (
    byte-put bytes xs _ _ 10 _ (omega (arith, size)) c.put_byte-start-6.ensures.row (
    byte-put bytes xs _ _ 11 _ (omega (arith, size)) c.put_byte-start-5.ensures.row (
    byte-put bytes xs _ _ 12 _ (omega (arith, size)) c.put_byte-start-4.ensures.row (
    byte-put bytes xs _ _ 13 _ (omega (arith, size)) c.put_byte-start-3.ensures.row (
    byte-put bytes xs _ _ 14 _ (omega (arith, size)) c.put_byte-start-2.ensures.row (
    byte-put bytes xs _ _ 15 _ (omega (arith, size)) c.put_byte-start.ensures.row (
    none-stand bytes xs 16 (omega (arith, size))))))))))))))))))
