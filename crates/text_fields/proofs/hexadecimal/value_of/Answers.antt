use Rattle.std.proofs.Common.{◌≡◌, ◌+◌, ◌*◌, ap, sym, ◌∙◌, get_or, suc, take, arith}
use Rattle.std.proofs.lemmas.Int.Digits.{digits_value_more}
use Rattle.std.proofs.Math.Nat.{pow-suc}
use Rattle.std.specs.Char.{digit_value}
use Rattle.std.specs.Str.Parse.{digits_value}
use Rattle.text_fields.proofs.HexNumbers.{pow-small}
use Rattle.text_fields.proofs.hexadecimal.value_of.Goals as goal

pub overflow_mul-number : goal.overflow_mul-number
overflow_mul-number c =
    let small = pow-small 31 c.loop-byte.byte-index c.loop-byte.number c.loop-byte.invariant.small (omega (arith, c.loop-byte-test.true, c.requires.few)) in
    omega arith

pub overflow_add-number : goal.overflow_add-number
overflow_add-number c =
    let small = pow-small 31 c.loop-byte.byte-index c.loop-byte.number c.loop-byte.invariant.small (omega (arith, c.loop-byte-test.true, c.requires.few)) in
    omega (arith, c.from.ensures, c.digit.ensures.small)

pub loop-byte-preserved : goal.loop-byte-preserved
loop-byte-preserved c =
    let i = c.loop-byte.byte-index in
    let next : i + 1 ≡ suc i = omega arith in
    let digits = c.args.digits.now in
    let before = c.loop-byte.invariant in
    let more = digits_value_more 16 digits i c.loop-byte-test.true in
    let value : c.from.result ≡ digit_value (get_or digits i 0) = c.from.ensures ∙ c.digit.ensures.value in
    record {
      so_far = ap (λ n. n * 16 + c.from.result) before.so_far ∙ ap (λ d. digits_value 16 (take i digits) * 16 + d) value ∙ sym more;
      small = rw (next, pow-suc 16 i) (omega (arith, c.from.ensures, c.digit.ensures.small, before.small));
    }
