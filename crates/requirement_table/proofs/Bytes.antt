-- The low bytes of a number.
use Rattle.std.proofs.Common.{◌≡◌, ◌≢◌, ℕ, zero, suc, ◌-◌, ◌≤◌, drop, refl, ⊎_elim, arith}
use Rattle.std.specs.Int.{bytes_high_first}
use Rattle.std.proofs.lemmas.Bool.{cases_eq}

-- behind the first `m - n` of `m` bytes stand the low `n` bytes
pub drop-bytes_high_first : (m n k : ℕ) → n ≤ m → drop (m - n) (bytes_high_first m k) ≡ bytes_high_first n k
drop-bytes_high_first zero n k within = let none : n ≡ 0 = omega arith in rw none refl
drop-bytes_high_first (suc m) n k within =
    ⊎_elim
    (λ (all : n ≡ suc m). let none : suc m - n ≡ 0 = omega arith in rw (none, all) refl)
    (λ (fewer : n ≢ suc m).
    let next : suc m - n ≡ suc (m - n) = omega arith in
    rw next (drop-bytes_high_first m n k (omega arith)))
    (cases_eq n (suc m))
