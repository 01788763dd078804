use Rattle.std.proofs.Common.{ℕ, List, [], ◌∷◌, ◌≤◌, ◌==◌, length, refl, arith}
use Rattle.std.proofs.lemmas.Bool.{eqb-true}
use Rattle.std.proofs.lemmas.Bool.Decides.{nat_tests}
use Rattle.std.specs.Char.{is_ascii_digit}
use Rattle.log_reader.proofs.FieldBytes.{word-is}
use Rattle.log_reader.proofs.LaneBits.{by-places}
use Rattle.log_reader.proofs.lanes.frame_run.Goals as goal

abbrev firsts : List ℕ
firsts = 102 ∷ 114 ∷ 97 ∷ 109 ∷ 101 ∷ 44 ∷ 48 ∷ 48 ∷ 48 ∷ 48 ∷ 48 ∷ 48 ∷ 48 ∷ 48 ∷ 48 ∷ 48 ∷ []

abbrev counts : List ℕ
counts = 1 ∷ 1 ∷ 1 ∷ 1 ∷ 1 ∷ 1 ∷ 10 ∷ 10 ∷ 10 ∷ 10 ∷ 10 ∷ 10 ∷ 10 ∷ 10 ∷ 10 ∷ 10 ∷ []

abbrev others : List ℕ
others = 0 ∷ 0 ∷ 0 ∷ 0 ∷ 0 ∷ 0 ∷ 0 ∷ 0 ∷ 0 ∷ 0 ∷ 0 ∷ 0 ∷ 0 ∷ 0 ∷ 0 ∷ 0 ∷ []

pub returns : goal.returns
returns c =
    let bytes = c.args.bytes.now in
    let run = c.among_lanes.result in
    let few = c.among_lanes.ensures.few in
    let is = by-places firsts counts others bytes run c.type_inv.bytes c.among_lanes.ensures.among in
    let within : run ≤ length bytes = grind (arith, nat_tests, few) in
    record {
      few = few;
      within = within;
      word = λ whole. word-is bytes (omega (arith, whole, within))
          (eqb-true _ _ (is 0 1 102 1 0 (λ x. x == 102) refl refl 0 (omega arith) (omega arith) (omega (arith, whole))))
          (eqb-true _ _ (is 1 2 114 1 0 (λ x. x == 114) refl refl 1 (omega arith) (omega arith) (omega (arith, whole))))
          (eqb-true _ _ (is 2 3 97 1 0 (λ x. x == 97) refl refl 2 (omega arith) (omega arith) (omega (arith, whole))))
          (eqb-true _ _ (is 3 4 109 1 0 (λ x. x == 109) refl refl 3 (omega arith) (omega arith) (omega (arith, whole))))
          (eqb-true _ _ (is 4 5 101 1 0 (λ x. x == 101) refl refl 4 (omega arith) (omega arith) (omega (arith, whole))))
          (eqb-true _ _ (is 5 6 44 1 0 (λ x. x == 44) refl refl 5 (omega arith) (omega arith) (omega (arith, whole))));
      digits = λ i after before. is 6 16 48 10 0 is_ascii_digit refl refl i after (omega (arith, before, few)) before;
    }
