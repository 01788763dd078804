use Rattle.std.proofs.Common.{◌≡◌, ◌+◌, ◌-◌, ◌*◌, ◌/◌, ◌++◌, suc, drop, ap, sym, ◌∙◌, arith}
use Rattle.text_fields.specs.Hexadecimal.{hex_digits}
use Rattle.text_fields.proofs.HexDigits.{hex_digits-zero}
use Rattle.text_fields.proofs.RowDigits.{pair-put}
use Rattle.text_fields.proofs.row_parts.put_hex.Goals as goal

pub loop-preserved : goal.loop-preserved
loop-preserved g c =
    let k = c.args.digits - 2 * (c.loop.counter + 1) in
    let l = c.loop in
    let next : suc (suc k) ≡ c.args.digits - 2 * l.counter = omega (arith, c.loop-test.true) in
    record {
      digits = ap (λ xs. hex_digits k (l.left / 256) ++ xs) c.put_hex_pair-start.ensures.row
          ∙ pair-put (c.args.digits - 2 * l.counter) k l.left (drop l.start l.row) next
          ∙ l.invariant.digits;
      size = omega (arith, c.put_hex_pair-start.ensures.start, l.invariant.size);
    }

pub returns-clause-row : goal.returns-clause-row
returns-clause-row g c =
    let l = c.loop in
    let none : c.args.digits - 2 * l.counter ≡ 0 = omega (arith, c.loop-test.false) in
    sym (ap (λ count. hex_digits count l.left ++ drop l.start l.row) none ∙ ap (λ digits. digits ++ drop l.start l.row) (hex_digits-zero l.left))
    ∙ l.invariant.digits
