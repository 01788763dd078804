-- The bits of numbers and bytes.
use Rattle.std.proofs.Common.{◌≡◌, ℕ, zero, suc, ◌+◌, ◌*◌, ◌/◌, ◌%◌, ◌^◌, ◌<◌, ◌≤◌, ◌==◌, List, [], ◌∷◌, ◌++◌, length, take, drop, get_or, append_assoc, refl, sym, ap, ◌∙◌, arith}
use Rattle.std.proofs.Math.Nat.{mul_assoc, pow-suc}
use Rattle.std.proofs.lemmas.List.{append-nil, length-append, take-append-drop, take_at, length-take-le}
use Rattle.std.proofs.lemmas.List.{take-append-le}
use Rattle.std.proofs.lemmas.Grind.{flat_map-append}
use Rattle.std.proofs.lemmas.Nat.{pow_pos}
use Rattle.std.proofs.Math.Pow.{shr_lt}
use Rattle.std.proofs.Math.Seq.{take-append-add, drop-cons}
use Rattle.stuff_bound.specs.Fields.{bits, bits_of}

-- a field has as many bits as it is wide
pub length-bits : (width value : ℕ) → length (bits width value) ≡ width
unfolding bits
length-bits zero value = refl
length-bits (suc width) value = length-append (bits width (value / 2)) _ ∙ ap (λ n. n + 1) (length-bits width (value / 2)) ∙ omega arith

-- a field in two parts
pub bits-append : (high low x y : ℕ) → y < 2 ^ low → bits (high + low) (x * 2 ^ low + y) ≡ bits high x ++ bits low y
unfolding bits
bits-append high zero x y h = grind (arith, append-nil)
bits-append high (suc low) x y h =
    let twice : 2 ^ suc low ≡ 2 ^ low * 2 = pow-suc 2 low in
    let width : high + suc low ≡ suc (high + low) = omega arith in
    let product_is : x * 2 ^ suc low ≡ x * 2 ^ low * 2 = ap (λ n. x * n) twice ∙ sym (mul_assoc x (2 ^ low) 2) in
    let half : (x * 2 ^ suc low + y) / 2 ≡ x * 2 ^ low + y / 2 = omega arith in
    let odd : (x * 2 ^ suc low + y) % 2 ≡ y % 2 = omega arith in
    rw (width, half, odd) (ap (λ field. field ++ (y % 2 == 1) ∷ []) (bits-append high low x (y / 2) (omega arith)) ∙ append_assoc (bits high x) (bits low (y / 2)) _)

-- bytes have eight bits each
pub length-bits_of : (bytes : List ℕ) → length (bits_of bytes) ≡ 8 * length bytes
length-bits_of [] = refl
length-bits_of (byte ∷ bytes) = length-append (bits 8 byte) (bits_of bytes) ∙ omega (arith, length-bits 8 byte, length-bits_of bytes)

-- the bits of bytes, in two parts
bits_of-split : (bytes : List ℕ) (whole : ℕ) → bits_of bytes ≡ bits_of (take whole bytes) ++ bits_of (drop whole bytes)
bits_of-split bytes whole =
    ap bits_of (sym (take-append-drop whole bytes)) ∙ flat_map-append (bits 8) (take whole bytes) (drop whole bytes)

length-taken : (bytes : List ℕ) (whole : ℕ) → whole ≤ length bytes → length (bits_of (take whole bytes)) ≡ 8 * whole
length-taken bytes whole within = length-bits_of (take whole bytes) ∙ ap (λ n. 8 * n) (length-take-le whole bytes within)

-- the first bits of bytes are those of the first whole bytes, and some of the next
taken : (bytes : List ℕ) (count whole rest : ℕ) → whole ≤ length bytes → count ≡ 8 * whole + rest → take count (bits_of bytes) ≡ bits_of (take whole bytes) ++ take rest (bits_of (drop whole bytes))
taken bytes count whole rest within is =
    let front = bits_of (take whole bytes) in
    let width : count ≡ length front + rest = omega (arith, length-taken bytes whole within) in
    rw (width, bits_of-split bytes whole) (take-append-add front (bits_of (drop whole bytes)) rest)

pub taken-whole : (bytes : List ℕ) (count whole : ℕ) → whole ≤ length bytes → count ≡ 8 * whole → take count (bits_of bytes) ≡ bits_of (take whole bytes)
taken-whole bytes count whole within is =
    taken bytes count whole 0 within (omega arith) ∙ append-nil (bits_of (take whole bytes))

-- the highest bits of a byte
bits-high : (high low byte : ℕ) → high + low ≡ 8 → take high (bits 8 byte) ≡ bits high (byte / 2 ^ low)
bits-high high low byte widths =
    let some = pow_pos low in
    let parts : byte ≡ byte / 2 ^ low * 2 ^ low + byte % 2 ^ low = omega arith in
    grind (arith, bits-append, take_at, length-bits)

pub taken-part : (bytes : List ℕ) (count whole rest low : ℕ) → whole < length bytes → count ≡ 8 * whole + rest → rest + low ≡ 8 → take count (bits_of bytes) ≡ bits_of (take whole bytes) ++ bits rest (get_or bytes whole 0 / 2 ^ low)
taken-part bytes count whole rest low within is widths =
    let byte = get_or bytes whole 0 in
    let after = bits_of (drop (suc whole) bytes) in
    let next : take rest (bits_of (drop whole bytes)) ≡ take rest (bits 8 byte ++ after) = ap (λ left. take rest (bits_of left)) (drop-cons bytes whole 0 within) in
    grind (arith, take-append-le, length-bits, taken, bits-high)

-- and they are a number of so many bits
pub high-below : (high low byte : ℕ) → high + low ≡ 8 → byte < 256 → byte / 2 ^ low < 2 ^ high
high-below high low byte widths small = shr_lt high low (rw widths small)
