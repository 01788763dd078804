use Rattle.std.proofs.Common.{◌≡◌, ℕ, ◌<◌, rules, sym, ◌∙◌, get_or, arith}
use Rattle.std.proofs.lemmas.Nat.{be_bytes_4}
use Rattle.text_fields.proofs.row_parts.are_zeros.Goals as goal

pub returns : goal.returns
returns c = record {
  zeros = λ zero.
      let small : (i : ℕ) → get_or c.args.bytes i 0 < 256 = search rules in
      let none : 0 ≡ c.from_be_bytes.result = search rules in
      sym (be_bytes_4 c.args.bytes 0 (omega arith) small (none ∙ c.from_be_bytes.ensures));
}
