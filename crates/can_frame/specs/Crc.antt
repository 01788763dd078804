-- The CRC sequence as a remainder of polynomial division (CAN 2.0 Part A, CRC field).
--
-- A polynomial over two elements is written as the number whose bit k is the coefficient of x^k, so x^3 + 1 is 9.
-- The sum of two is then their `bit_xor`, and the product with x^k is that with 2 ^ k.
use Rattle.std.specs.Prelude.{◌≡◌, ℕ, zero, suc, ◌+◌, ◌*◌, ◌^◌, ◌<◌}
use Rattle.std.specs.Prelude.{Bool, nat_lt, List, [], ◌∷◌, length, bit_xor, if◌then◌else◌}
use Rattle.can_frame.specs.Number.{number}

-- the generator, x^15 + x^14 + x^10 + x^8 + x^7 + x^4 + x^3 + 1
abbrev pub generator : ℕ
generator = 2 ^ 15 + 2 ^ 14 + 2 ^ 10 + 2 ^ 8 + 2 ^ 7 + 2 ^ 4 + 2 ^ 3 + 1

-- the product of two polynomials, the first by its coefficients from that of x^0 on: (c + x·q)·p is c·p + x·(q·p)
unfoldable pub product : List Bool → ℕ → ℕ
product [] p = 0
product (c ∷ q) p = bit_xor (if c then p else 0) (2 * product q p)

-- division of a polynomial by the generator leaves `remainder`, whose degree is below 15
pub record IsRemainder (dividend remainder : ℕ) : Type 0 where
  pub quotient : List Bool
  pub division : dividend ≡ bit_xor (product quotient generator) remainder
  pub below : remainder < 2 ^ 15

-- *CRC sequence*: the covered bits, the first of them the coefficient of the highest power, times x^15, leave it as
-- remainder
abbrev pub IsSequence : List Bool → ℕ → Type 0
IsSequence covered sequence = IsRemainder (number covered * 2 ^ 15) sequence

-- x^k modulo the generator
unfoldable pub power : ℕ → ℕ
power zero = 1
power (suc k) = let next = 2 * power k in if nat_lt next (2 ^ 15) then next else bit_xor next generator

-- the CRC sequence of the covered bits (`laws` says that it is the one): each recessive bit that is followed by k more
-- of them adds x^(15 + k) modulo the generator
unfoldable pub sequence_of : List Bool → ℕ
sequence_of [] = 0
sequence_of (bit ∷ covered) =
    bit_xor (if bit then power (15 + length covered) else 0) (sequence_of covered)
