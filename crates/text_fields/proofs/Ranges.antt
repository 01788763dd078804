-- Numbers in a range.
use Rattle.std.proofs.Common.{◌≡◌, ℕ, ◌≤◌, ◌&&◌, true, false, cond, Bool, Option, Some, None, nat_le, refl, arith}
use Rattle.std.proofs.lemmas.Bool.{and_parts}
use Rattle.std.proofs.lemmas.Bool.Decides.{nat_tests}
use Rattle.std.proofs.lemmas.Option.{same_Some}
use Rattle.text_fields.specs.Decimal.{within}

-- a choice of a value or none that gives one
pub if-some : {A : Type 0} (b : Bool) (x : Option A) (y : A) → cond b x None ≡ Some y → (b ≡ true) × (x ≡ Some y)
if-some true x y is = (refl, is)
if-some false x y is = absurd (cc)

pub within-is : (low high v n : ℕ) → within low high v ≡ Some n → (v ≡ n) × (low ≤ n) × (n ≤ high)
within-is low high v n read =
    let parts = if-some (nat_le low v && nat_le v high) (Some v) n read in
    let is : v ≡ n = same_Some v n parts.1 in
    let (first, second) = and_parts (nat_le low v) (nat_le v high) parts.0 in
    let least : low ≤ v = grind (arith, nat_tests) in
    let most : v ≤ high = grind (arith, nat_tests) in
    (is, omega arith, omega arith)

pub within-found : (low high n : ℕ) → low ≤ n → n ≤ high → within low high n ≡ Some n
within-found low high n least most =
    let first : nat_le low n ≡ true = grind (arith, nat_tests) in
    let second : nat_le n high ≡ true = grind (arith, nat_tests) in
    rw (first, second)
