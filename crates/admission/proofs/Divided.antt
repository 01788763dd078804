-- Numbers that divide others.
use Rattle.std.proofs.Common.{◌≡◌, ℕ, ◌-◌, ◌*◌, ◌/◌, ◌%◌, ◌≤◌, subst, arith}
use Rattle.std.proofs.Math.Nat.{div-add-mod', dvd-mul_left, dvd-sub}
use Rattle.std.proofs.lemmas.Nat.Gcd.{dvd_of_mod-eq-zero, dvd_trans, mod-eq-zero_of_dvd}

-- what a divisor divides its divisors divide
pub divided-along : (small great n : ℕ) → great % small ≡ 0 → n % great ≡ 0 → n % small ≡ 0
divided-along small great n first second = grind (arith, mod-eq-zero_of_dvd, dvd_trans, dvd_of_mod-eq-zero)

-- numbers with the same rest differ by a multiple
pub divided-gap : (one other length : ℕ) → one ≤ other → one % length ≡ other % length → (other - one) % length ≡ 0
divided-gap one other length order same =
    let gap : other / length * length - one / length * length ≡ other - one = omega arith in
    let divided : (other / length * length - one / length * length) % length ≡ 0 =
    mod-eq-zero_of_dvd length (dvd-sub length (dvd-mul_left length (other / length)) (dvd-mul_left length (one / length))) in
    subst (λ n. n % length ≡ 0) gap divided

-- the multiple of a number that another one is
pub parts-of : (n small : ℕ) → n % small ≡ 0 → n / small * small ≡ n
parts-of n small divided = let whole = div-add-mod' n small in omega arith
