-- Entries that were dropped as over before are dropped as over later too.
use Rattle.std.proofs.Common.{◌≡◌, ℕ, ◌≤◌, Bool, true, false, cond, not, nat_le, Option, List, [], ◌∷◌, filter, refl, arith}
use Rattle.std.specs.Option.{option_map_or}
use Rattle.std.proofs.lemmas.Bool.{false≢true, le-leb, leb-true}
use Rattle.requirement_table.specs.declared.entries.Placed.{Placed}
use Rattle.requirement_table.specs.Table.{free_from, is_over, not_over}

module _ {X : Type 0} (one two : X → Bool) (later : (x : X) → one x ≡ true → two x ≡ true) where
  abbrev without_one : List X → List X
  without_one xs = filter (λ x. not (one x)) xs

  abbrev without_two : List X → List X
  without_two xs = filter (λ x. not (two x)) xs

  again-step : (x : X) (xs : List X) (b : Bool) → one x ≡ b → without_two (without_one xs) ≡ without_two xs
      → without_two (cond (not b) (x ∷ without_one xs) (without_one xs)) ≡ without_two (x ∷ xs)
  again-step x xs b is same = grind arith

  again : (xs : List X) → without_two (without_one xs) ≡ without_two xs
  again [] = refl
  again (x ∷ xs) = again-step x xs (one x) refl (again xs)

over-by : (free : Option ℕ) (early late : ℕ) → early ≤ late → option_map_or (λ from. nat_le from early) free false ≡ true
    → option_map_or (λ from. nat_le from late) free false ≡ true
over-by free early late before over = grind (arith, false≢true, leb-true, le-leb)

pub not_over-again : (early late : ℕ) (placed : List Placed) → early ≤ late → not_over late (not_over early placed) ≡ not_over late placed
not_over-again early late placed before = again (is_over early) (is_over late) (λ p over. over-by (free_from p) early late before over) placed
