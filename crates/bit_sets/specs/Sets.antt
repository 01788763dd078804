-- Sets of small numbers, such as slots and rows, as numbers: a set has i where bit i is 1.
use Rattle.std.specs.Prelude.{ℕ, suc, zero, ◌+◌, ◌^◌, Bool, nat_eq, if◌then◌else◌}
use Rattle.std.specs.Int.{bit_at}
pub use Rattle.profile.specs.Limits.{most_slots}

-- whether the bit of a number is 1: whether a slot, or a row, stands in a set
abbrev pub has_bit : ℕ → ℕ → Bool
has_bit set bit = nat_eq (bit_at set bit) 1

-- the sum of `f` over the numbers below `n` of which `p` holds
unfoldable pub sum_where : ℕ → (ℕ → Bool) → (ℕ → ℕ) → ℕ
sum_where zero p f = 0
sum_where (suc n) p f = sum_where n p f + (if p n then f n else 0)

-- the set of the numbers below `n` of which `p` holds
unfoldable pub set_of : ℕ → (ℕ → Bool) → ℕ
set_of n p = sum_where n p (λ bit. 2 ^ bit)
