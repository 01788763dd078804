-- The least number that passes a test.
use Rattle.std.proofs.Common.{◌≡◌, ℕ, zero, suc, ◌<◌, Bool, true, false, cond, Option, Some, None, refl, subst, arith}
use Rattle.std.specs.Option.{is_some}
use Rattle.std.proofs.lemmas.Bool.{cases_lt}
use Rattle.bit_sets.specs.Least.{least_where}

-- what `least_where` finds below `n`
abbrev pub IsLeastBelow : ℕ → (ℕ → Bool) → Option ℕ → Type 0
IsLeastBelow n p None = (k : ℕ) → k < n → p k ≡ false
IsLeastBelow n p (Some least) = (least < n) × (p least ≡ true) × ((k : ℕ) → k < least → p k ≡ false)

next_least : (n : ℕ) (p : ℕ → Bool) (found : Option ℕ) (last : Bool) → p n ≡ last → IsLeastBelow n p found
    → IsLeastBelow (suc n) p (cond (is_some found) found (cond last (Some n) None))
next_least n p found last is below = grind (arith, cases_lt)

pub least_where-least : (n : ℕ) (p : ℕ → Bool) → IsLeastBelow n p (least_where n p)
unfolding least_where
least_where-least zero p = λ k within. absurd (omega arith)
least_where-least (suc n) p = next_least n p (least_where n p) (p n) refl (least_where-least n p)

-- the same of what was found
pub least_where-of : (n : ℕ) (p : ℕ → Bool) (found : Option ℕ) → least_where n p ≡ found → IsLeastBelow n p found
least_where-of n p found is = subst (IsLeastBelow n p) is (least_where-least n p)
