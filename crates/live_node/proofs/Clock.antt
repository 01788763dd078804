-- The cycle of a trigger frame.
use Rattle.std.proofs.Common.{◌≡◌, ℕ, ◌+◌, ◌-◌, ◌%◌, ◌<◌, ◌≤◌, ◌&&◌, Bool, true, false, Option, Some, None, ◌⊎◌, inl, inr, refl, sym, ap, ◌∙◌, arith}
use Rattle.std.specs.Prelude.{nat_le, if◌then◌else◌, IfSome}
use Rattle.std.proofs.lemmas.Bool.{and_parts, cases_lt, false≢true, leb-true}
use Rattle.std.proofs.lemmas.Bool.Decides.{nat_tests}
use Rattle.live_node.specs.Hearing.{said_cycle}

abbrev ahead_of : ℕ → ℕ → ℕ
ahead_of guess low = (low + (256 - guess % 256)) % 256

if-first : (first second : Bool) (x y z : ℕ) → first ≡ true → x ≡ z → (if first then Some x else (if second then Some y else None)) ≡ Some z
if-first true second x y z holds is = ap (λ n. Some n) is
if-first false second x y z holds is = absurd (false≢true holds)

if-second : (first second : Bool) (x y z : ℕ) → first ≡ false → second ≡ true → y ≡ z
    → (if first then Some x else (if second then Some y else None)) ≡ Some z
if-second true second x y z fails holds is = absurd (false≢true (sym fails))
if-second false true x y z fails holds is = ap (λ n. Some n) is
if-second false false x y z fails holds is = absurd (false≢true holds)

pub found : (next passed tolerance cycle : ℕ) → tolerance ≤ 127 → next ≤ cycle → cycle ≤ next + passed + tolerance
    → next + passed ≤ cycle + tolerance → said_cycle next passed tolerance (cycle % 256) ≡ Some cycle
found next passed tolerance cycle small low late early = by_order (cases_lt cycle (next + passed))
  where
    by_order : (cycle < next + passed) ⊎ (next + passed ≤ cycle) → said_cycle next passed tolerance (cycle % 256) ≡ Some cycle
    by_order (inl before) =
        let guess : ℕ = next + passed in
        let is : ahead_of guess (cycle % 256) + guess ≡ cycle + 256 = omega arith in
        let high : nat_le (ahead_of guess (cycle % 256)) tolerance ≡ false = grind (arith, nat_tests) in
        let room : (nat_le 256 (ahead_of guess (cycle % 256) + tolerance) && nat_le (next + 256) (guess + ahead_of guess (cycle % 256))) ≡ true
        = grind (arith, nat_tests) in
        if-second (nat_le (ahead_of guess (cycle % 256)) tolerance)
        (nat_le 256 (ahead_of guess (cycle % 256) + tolerance) && nat_le (next + 256) (guess + ahead_of guess (cycle % 256)))
        (guess + ahead_of guess (cycle % 256)) (guess + ahead_of guess (cycle % 256) - 256) cycle high room (omega (arith, is))
    by_order (inr behind) =
        let guess : ℕ = next + passed in
        let is : guess + ahead_of guess (cycle % 256) ≡ cycle = omega arith in
        let near : nat_le (ahead_of guess (cycle % 256)) tolerance ≡ true = grind (arith, nat_tests) in
        if-first (nat_le (ahead_of guess (cycle % 256)) tolerance)
        (nat_le 256 (ahead_of guess (cycle % 256) + tolerance) && nat_le (next + 256) (guess + ahead_of guess (cycle % 256)))
        (guess + ahead_of guess (cycle % 256)) (guess + ahead_of guess (cycle % 256) - 256) cycle near is

if-some : (first second : Bool) (x y : ℕ) (P : ℕ → Type 0) → (first ≡ true → P x) → (second ≡ true → P y)
    → IfSome (if first then Some x else (if second then Some y else None)) P
if-some true second x y P one other = one refl
if-some false true x y P one other = other refl
if-some false false x y P one other = tt

pub only : (next passed tolerance low : ℕ) → low < 256 → tolerance ≤ 127
    → IfSome (said_cycle next passed tolerance low) (λ cycle. (next ≤ cycle) × (cycle % 256 ≡ low)
    × (cycle ≤ next + passed + tolerance) × (next + passed ≤ cycle + tolerance))
only next passed tolerance low below small =
    let guess : ℕ = next + passed in
    if-some (nat_le (ahead_of guess low) tolerance) (nat_le 256 (ahead_of guess low + tolerance) && nat_le (next + 256) (guess + ahead_of guess low))
    (guess + ahead_of guess low) (guess + ahead_of guess low - 256)
    (λ cycle. (next ≤ cycle) × (cycle % 256 ≡ low) × (cycle ≤ next + passed + tolerance) × (next + passed ≤ cycle + tolerance))
    (λ near.
    let within : ahead_of guess low ≤ tolerance = leb-true _ _ near in
    (omega arith, omega arith, omega (arith, within), omega arith))
    (λ far.
    let parts = and_parts (nat_le 256 (ahead_of guess low + tolerance)) (nat_le (next + 256) (guess + ahead_of guess low)) far in
    let within : 256 ≤ ahead_of guess low + tolerance = leb-true _ _ parts.0 in
    let room : next + 256 ≤ guess + ahead_of guess low = leb-true _ _ parts.1 in
    let less : ahead_of guess low < 256 = omega arith in
    (omega (arith, room), omega (arith, room), omega (arith, less), omega (arith, within, room)))
