-- *CRC-32*, the checksum of IEEE 802.3: bits are taken least first, and the polynomial is 0xEDB88320 in that order.
use Rattle.std.specs.Prelude.{ℕ, zero, suc, ◌/◌, ◌%◌, nat_eq, List, fold, bit_xor, if◌then◌else◌}

-- a register behind one bit
unfoldable pub shifted : ℕ → ℕ
shifted register = if nat_eq (register % 2) 1 then bit_xor (register / 2) 0xEDB88320 else register / 2

-- behind so many bits
abbrev pub shifted_by : ℕ → ℕ → ℕ
shifted_by zero register = register
shifted_by (suc n) register = shifted (shifted_by n register)

-- behind one byte
unfoldable pub behind : ℕ → ℕ → ℕ
behind register byte = shifted_by 8 (bit_xor register byte)

-- of a list of bytes: the register begins with all bits set, and all are turned at the end
unfoldable pub checksum : List ℕ → ℕ
checksum bytes = bit_xor (fold behind 0xFFFFFFFF bytes) 0xFFFFFFFF
