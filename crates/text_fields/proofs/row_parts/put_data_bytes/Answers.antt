use Rattle.std.proofs.Common.{◌≡◌, ◌∙◌, ap, drop, get_or, length, refl, arith}
use Rattle.text_fields.specs.Hexadecimal.{hex_digits}
use Rattle.text_fields.proofs.LowDigits.{none-put, place-put, zero-digits}
use Rattle.text_fields.proofs.row_parts.put_data_bytes.Goals as goal

pub returns-in-len8-clause-row : goal.returns-in-len8-clause-row
returns-in-len8-clause-row g c =
    let bytes = c.args.bytes.now in
    let xs = drop c.args.end c.args.row.now in
    let f = hex_digits 2 in
    let size : length bytes ≡ 8 = omega (arith, c.in-len8.len_at_least, c.in-len8.len_below) in
    place-put f bytes xs _ _ 0 _ (omega (arith, size)) c.put_hex_pair.ensures.row (
    place-put f bytes xs _ _ 1 _ (omega (arith, size)) c.put_hex_pair-start-in-len8-6.ensures.row (
    place-put f bytes xs _ _ 2 _ (omega (arith, size)) c.put_hex_pair-start-in-len8-5.ensures.row (
    place-put f bytes xs _ _ 3 _ (omega (arith, size)) c.put_hex_pair-start-in-len8-4.ensures.row (
    place-put f bytes xs _ _ 4 _ (omega (arith, size)) c.put_hex_pair-start-in-len8-3.ensures.row (
    place-put f bytes xs _ _ 5 _ (omega (arith, size)) c.put_hex_pair-start-in-len8-2.ensures.row (
    place-put f bytes xs _ _ 6 _ (omega (arith, size)) c.put_hex_pair-start-in-len8.ensures.row (
    place-put f bytes xs _ _ 7 _ (omega (arith, size)) c.put_hex_pair-start.ensures.row (
    none-put f bytes xs 8 (omega (arith, size))))))))))

-- the first four bytes are 0
pub returns-then-are_zeros-clause-row : goal.returns-then-are_zeros-clause-row
returns-then-are_zeros-clause-row g c =
    let bytes = c.args.bytes.now in
    let xs = drop c.args.end c.args.row.now in
    let f = hex_digits 2 in
    let size : length bytes ≡ 8 = omega (arith, c.in-len8.len_at_least, c.in-len8.len_below) in
    let none = c.if-are_zeros.ensures.zeros refl in
    place-put f bytes xs _ _ 0 _ (omega (arith, size)) (c.put_word.ensures.row ∙ zero-digits _ _ (ap (λ l. get_or l 0 1) none)) (
    place-put f bytes xs _ _ 1 _ (omega (arith, size)) (zero-digits _ _ (ap (λ l. get_or l 1 1) none)) (
    place-put f bytes xs _ _ 2 _ (omega (arith, size)) (zero-digits _ _ (ap (λ l. get_or l 2 1) none)) (
    place-put f bytes xs _ _ 3 _ (omega (arith, size)) (zero-digits _ _ (ap (λ l. get_or l 3 1) none)) (
    place-put f bytes xs _ _ 4 _ (omega (arith, size)) c.put_hex_pair-start-in-len8-3.ensures.row (
    place-put f bytes xs _ _ 5 _ (omega (arith, size)) c.put_hex_pair-start-in-len8-2.ensures.row (
    place-put f bytes xs _ _ 6 _ (omega (arith, size)) c.put_hex_pair-start-in-len8.ensures.row (
    place-put f bytes xs _ _ 7 _ (omega (arith, size)) c.put_hex_pair-start.ensures.row (
    none-put f bytes xs 8 (omega (arith, size))))))))))
