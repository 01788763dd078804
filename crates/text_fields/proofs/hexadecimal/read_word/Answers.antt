use Rattle.std.proofs.Common.{◌≡◌, ◌+◌, ◌*◌, ◌&&◌, ap, sym, ◌∙◌, get_or, suc, take, arith}
use Rattle.std.proofs.lemmas.Int.Digits.{digits_value_more}
use Rattle.std.proofs.lemmas.List.Folds.{list_all_more}
use Rattle.std.proofs.Math.Nat.{pow-suc}
use Rattle.std.specs.Char.{digit_value}
use Rattle.std.specs.Str.Parse.{digits_value}
use Rattle.text_fields.specs.Hexadecimal.{is_hex_digit}
use Rattle.text_fields.proofs.HexNumbers.{digit-read, pow-small}
use Rattle.text_fields.proofs.hexadecimal.read_word.Goals as goal

pub overflow_mul-number : goal.overflow_mul-number
overflow_mul-number c =
    let small = pow-small 15 c.loop-byte.byte-index c.loop-byte.number c.loop-byte.invariant.small (omega (arith, c.loop-byte-test.true, c.requires.few)) in
    omega arith

pub overflow_add-number : goal.overflow_add-number
overflow_add-number c =
    let small = pow-small 15 c.loop-byte.byte-index c.loop-byte.number c.loop-byte.invariant.small (omega (arith, c.loop-byte-test.true, c.requires.few)) in
    omega (arith, c.from.ensures, c.in_ok-lower_digit.ensures.small)

pub loop-byte-preserved : goal.loop-byte-preserved
loop-byte-preserved c =
    let i = c.loop-byte.byte-index in
    let next : i + 1 ≡ suc i = omega arith in
    let digits = c.args.digits.now in
    let before = c.loop-byte.invariant in
    let read = digit-read is_hex_digit (get_or digits i 0) c.in_ok-lower_digit.field-0 (sym c.in_ok-lower_digit.ensures.value) in
    let more = digits_value_more 16 digits i c.loop-byte-test.true in
    let value : c.from.result ≡ digit_value (get_or digits i 0) = c.from.ensures ∙ sym read.1 in
    record {
      all = list_all_more is_hex_digit digits i 0 c.loop-byte-test.true ∙ ap (λ b. b && is_hex_digit (get_or digits i 0)) before.all ∙ read.0;
      so_far = ap (λ n. n * 16 + c.from.result) before.so_far ∙ ap (λ d. digits_value 16 (take i digits) * 16 + d) value ∙ sym more;
      small = rw (next, pow-suc 16 i) (omega (arith, c.from.ensures, c.in_ok-lower_digit.ensures.small, before.small));
    }
