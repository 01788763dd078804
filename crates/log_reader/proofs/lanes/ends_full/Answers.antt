use Rattle.std.proofs.Common.{◌≡◌, ℕ, List, [], ◌∷◌, ◌<◌, ◌==◌, true, refl, arith}
use Rattle.std.proofs.lemmas.Bool.{eqb-true}
use Rattle.text_fields.specs.Hexadecimal.{is_hex_digit}
use Rattle.log_reader.proofs.LaneBits.{by-places}
use Rattle.log_reader.proofs.lanes.ends_full.Goals as goal

abbrev firsts : List ℕ
firsts = 48 ∷ 48 ∷ 48 ∷ 48 ∷ 48 ∷ 48 ∷ 48 ∷ 48 ∷ 48 ∷ 48 ∷ 48 ∷ 48 ∷ 48 ∷ 48 ∷ 48 ∷ 10 ∷ []

abbrev counts : List ℕ
counts = 10 ∷ 10 ∷ 10 ∷ 10 ∷ 10 ∷ 10 ∷ 10 ∷ 10 ∷ 10 ∷ 10 ∷ 10 ∷ 10 ∷ 10 ∷ 10 ∷ 10 ∷ 1 ∷ []

abbrev others : List ℕ
others = 6 ∷ 6 ∷ 6 ∷ 6 ∷ 6 ∷ 6 ∷ 6 ∷ 6 ∷ 6 ∷ 6 ∷ 6 ∷ 6 ∷ 6 ∷ 6 ∷ 6 ∷ 0 ∷ []

pub returns : goal.returns
returns c =
    let run = c.among_lanes.result in
    let is = by-places firsts counts others c.args.bytes.now run c.type_inv.bytes c.among_lanes.ensures.among in
    let below = λ (yes : (run == 16) ≡ true) (i : ℕ) (few : i < 16). let all = eqb-true run 16 yes in let here : i < run = omega (arith, all, few) in here in
    record {
      content = λ yes i before. is 0 15 48 10 6 is_hex_digit refl refl i (omega arith) before (below yes i (omega (arith, before)));
      feed = λ yes. eqb-true _ _ (is 15 16 10 1 0 (λ x. x == 10) refl refl 15 (omega arith) (omega arith) (below yes 15 (omega arith)));
    }
