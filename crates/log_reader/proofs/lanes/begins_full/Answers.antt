use Rattle.std.proofs.Common.{◌≡◌, ℕ, List, [], ◌∷◌, ◌<◌, ◌==◌, true, leb, refl, arith, inl, inr}
use Rattle.std.proofs.lemmas.Bool.{cases_lt, eqb-true, leb-true}
use Rattle.std.specs.Char.{is_ascii_digit}
use Rattle.text_fields.specs.Hexadecimal.{is_hex_digit}
use Rattle.log_reader.proofs.LaneBits.{by-places}
use Rattle.log_reader.proofs.lanes.begins_full.Goals as goal

abbrev firsts : List ℕ
firsts = 49 ∷ 48 ∷ 48 ∷ 44 ∷ 48 ∷ 48 ∷ 48 ∷ 44 ∷ 48 ∷ 48 ∷ 48 ∷ 48 ∷ 48 ∷ 48 ∷ 48 ∷ 48 ∷ []

abbrev counts : List ℕ
counts = 9 ∷ 10 ∷ 10 ∷ 1 ∷ 7 ∷ 10 ∷ 10 ∷ 1 ∷ 10 ∷ 10 ∷ 10 ∷ 10 ∷ 10 ∷ 10 ∷ 10 ∷ 10 ∷ []

abbrev others : List ℕ
others = 0 ∷ 0 ∷ 0 ∷ 0 ∷ 0 ∷ 6 ∷ 6 ∷ 0 ∷ 6 ∷ 6 ∷ 6 ∷ 6 ∷ 6 ∷ 6 ∷ 6 ∷ 6 ∷ []

pub returns : goal.returns
returns c =
    let run = c.among_lanes.result in
    let is = by-places firsts counts others c.args.bytes.now run c.type_inv.bytes c.among_lanes.ensures.among in
    let below = λ (yes : (run == 16) ≡ true) (i : ℕ) (few : i < 16). let all = eqb-true run 16 yes in let here : i < run = omega (arith, all, few) in here in
    record {
      first = λ yes. leb-true 49 _ (is 0 1 49 9 0 (λ x. leb 49 x) refl refl 0 (omega arith) (omega arith) (below yes 0 (omega arith)));
      digits = λ yes i before. elim (cases_lt i 1) [
        | inl early ↦ is 0 1 49 9 0 is_ascii_digit refl refl i (omega arith) early (below yes i (omega (arith, before)))
        | inr late ↦ is 1 3 48 10 0 is_ascii_digit refl refl i late before (below yes i (omega (arith, before)))
      ];
      comma = λ yes. eqb-true _ _ (is 3 4 44 1 0 (λ x. x == 44) refl refl 3 (omega arith) (omega arith) (below yes 3 (omega arith)));
      least = λ yes. leb-true 48 _ (is 4 5 48 7 0 (λ x. leb 48 x) refl refl 4 (omega arith) (omega arith) (below yes 4 (omega arith)));
      most = λ yes. leb-true _ 54 (is 4 5 48 7 0 (λ x. leb x 54) refl refl 4 (omega arith) (omega arith) (below yes 4 (omega arith)));
      later = λ yes i after before. is 5 7 48 10 6 is_hex_digit refl refl i after before (below yes i (omega (arith, before)));
      second = λ yes. eqb-true _ _ (is 7 8 44 1 0 (λ x. x == 44) refl refl 7 (omega arith) (omega arith) (below yes 7 (omega arith)));
      content = λ yes i after before. is 8 16 48 10 6 is_hex_digit refl refl i after before (below yes i (omega (arith, before)));
    }
