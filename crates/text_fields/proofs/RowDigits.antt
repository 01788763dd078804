-- The digits of a row, as they are put before what stands.
use Rattle.std.proofs.Common.{◌≡◌, ℕ, suc, ◌+◌, ◌*◌, ◌/◌, ◌%◌, ◌<◌, ◌≤◌, true, false, List, [], ◌∷◌, ◌++◌, get_or, refl, sym, ap, ◌∙◌, arith, append_assoc}
use Rattle.std.specs.Fmt.{digit_glyph}
use Rattle.stuff_bound.proofs.Shared.{are_entries, entry-is}
use Rattle.text_fields.specs.HexPairs.{digit_at}
use Rattle.text_fields.specs.Hexadecimal.{hex_digits}
use Rattle.text_fields.specs.declared.hex_pairs.TheConstants.{HEX_PAIRS}
use Rattle.text_fields.proofs.HexDigits.{glyph-low, hex-two, hex_digits-suc, hex_digits-zero}

-- The table of pairs

all_digits : are_entries digit_at 0 HEX_PAIRS ≡ true
unfolding digit_at
all_digits = refl

pub digit_is : (place : ℕ) → place < 512 → get_or HEX_PAIRS place 0 ≡ digit_at place
digit_is place within = entry-is digit_at place HEX_PAIRS all_digits within

-- the two digits of a byte
pub pair_is : (byte : ℕ) → byte < 256 → digit_at (2 * byte) ∷ digit_at (2 * byte + 1) ∷ [] ≡ hex_digits 2 byte
unfolding digit_at
pair_is byte small =
    let even : 2 * byte % 2 ≡ 0 = omega arith in
    let odd : (2 * byte + 1) % 2 ≡ 1 = omega arith in
    let first : 2 * byte / 2 ≡ byte = omega arith in
    let second : (2 * byte + 1) / 2 ≡ byte = omega arith in
    rw (even, odd, first, second, hex-two byte small)

-- Pairs before what stands

-- two digits more stand behind those of what is left
hex_digits-pair : (k n : ℕ) → hex_digits (suc (suc k)) n ≡ hex_digits k (n / 256) ++ hex_digits 2 (n % 256)
hex_digits-pair k n =
    let front : n / 16 / 16 ≡ n / 256 = omega arith in
    let high : n % 256 / 16 ≡ n / 16 % 16 = omega arith in
    let low : n % 256 % 16 ≡ n % 16 = omega arith in
    let pair : hex_digits 2 (n % 256) ≡ digit_glyph false (n / 16 % 16) ∷ digit_glyph false (n % 16) ∷ [] = rw (hex-two (n % 256) (omega arith), high, low) in
    let joined = append_assoc (hex_digits k (n / 256)) (digit_glyph false (n / 16 % 16) ∷ []) (digit_glyph false (n % 16) ∷ []) in
    rw (hex_digits-suc (suc k) n, hex_digits-suc k (n / 16), front, pair, joined)

pub pair-put : (count k n : ℕ) (xs : List ℕ) → suc (suc k) ≡ count → hex_digits k (n / 256) ++ (hex_digits 2 (n % 256) ++ xs) ≡ hex_digits count n ++ xs
pair-put count k n xs is =
    sym (append_assoc (hex_digits k (n / 256)) (hex_digits 2 (n % 256)) xs)
    ∙ ap (λ digits. digits ++ xs) (sym (hex_digits-pair k n))
    ∙ ap (λ c. hex_digits c n ++ xs) is

-- the three digits of an identifier: one, and a pair
pub identifier-put : (id : ℕ) (xs : List ℕ) → id ≤ 0x7EF → (48 + id / 256) ∷ (hex_digits 2 (id % 256) ++ xs) ≡ hex_digits 3 id ++ xs
identifier-put id xs small =
    let low : id / 256 % 16 ≡ id / 256 = omega arith in
    let first : hex_digits 1 (id / 256) ≡ (48 + id / 256) ∷ [] = rw (hex_digits-suc 0 (id / 256), hex_digits-zero (id / 256 / 16), low, glyph-low (id / 256) (omega arith)) in
    ap (λ digits. digits ++ (hex_digits 2 (id % 256) ++ xs)) (sym first) ∙ pair-put 3 1 id xs refl
