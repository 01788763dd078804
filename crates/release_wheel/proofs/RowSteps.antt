-- Rows of which one changes.
use Rattle.std.proofs.Common.{◌≡◌, ◌≢◌, ℕ, ◌≤◌, Bool, true, false, nat_eq, refl, sym, arith}
use Rattle.std.proofs.lemmas.Bool.{eq-eqb, eqb-false, eqb-true}
use Rattle.release_wheel.specs.declared.dues.Dues.{Dues}
use Rattle.release_wheel.specs.declared.rows.Rows.{Rows}
use Rattle.release_wheel.specs.Wheel.{IsSameBut, ReleasedAt, TurnedAt, is_there}

-- what is asked of the row itself and of the others
pub by-row : (P : ℕ → Type 0) (row i : ℕ) → P row → (nat_eq row i ≡ false → P i) → P i
by-row P row i here others = grind (arith, eqb-true)

pub other-row : (row i : ℕ) → nat_eq row i ≡ false → i ≢ row
other-row row i other = let differ = eqb-false row i other in λ same. differ (sym same)

pub there-is : (place row : ℕ) → is_there place row place row ≡ true
there-is place row = rw (eq-eqb place place refl, eq-eqb row row refl) refl

lower : (a b l : ℕ) → b ≤ a → a ≤ l → b ≤ l
lower a b l below small = omega arith

module _ (row : ℕ) (rows new : Rows) (dues more : Dues) (but : IsSameBut row rows new dues more) (i : ℕ) (other : nat_eq row i ≡ false) where
  pub turned-other : (before : ℕ → Bool) (c : ℕ) → TurnedAt rows dues before c i → TurnedAt new more before c i
  turned-other before c was = grind (arith, lower)

  pub released-other : (before : ℕ → Bool) (c : ℕ) → ReleasedAt rows dues before c i → ReleasedAt new more before c i
  released-other before c was = grind (arith, lower)
