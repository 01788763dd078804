-- A table whose entries are what a function says, tested entry by entry.
use Rattle.std.proofs.Common.{◌≡◌, ℕ, zero, suc, ◌+◌, ◌<◌, Bool, true, ◌&&◌, List, [], ◌∷◌, length, get_or, arith}
use Rattle.std.proofs.Math.Dec.{eqb}
use Rattle.std.proofs.lemmas.Bool.{eqb-true}

-- from this place on each entry is what the function says
abbrev pub are_entries : (ℕ → ℕ) → ℕ → List ℕ → Bool
are_entries says place [] = true
are_entries says place (entry ∷ entries) =
    eqb entry (says place) && are_entries says (suc place) entries

first_of : (x y : Bool) → (x && y) ≡ true → x ≡ true
first_of x y h = grind arith

second_of : (x y : Bool) → (x && y) ≡ true → y ≡ true
second_of x y h = grind arith

entry-from : (says : ℕ → ℕ) (first i place : ℕ) (entries : List ℕ) → are_entries says first entries ≡ true → i < length entries → first + i ≡ place → get_or entries i 0 ≡ says place
entry-from says first i place [] h inside e = absurd (omega arith)
entry-from says first zero place (entry ∷ entries) h inside e = grind (arith, eqb-true, first_of)
entry-from says first (suc i) place (entry ∷ entries) h inside e =
    entry-from says (suc first) i place entries (second_of _ _ h) (omega arith) (omega arith)

-- so is the entry at a place
pub entry-is : (says : ℕ → ℕ) (place : ℕ) (entries : List ℕ) → are_entries says 0 entries ≡ true → place < length entries → get_or entries place 0 ≡ says place
entry-is says place entries all inside = entry-from says 0 place place entries all inside (omega arith)
