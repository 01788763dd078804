-- The low bytes of a number in places of storage, and numbers whose high parts are the same.
use Rattle.std.proofs.Common.{◌≡◌, ℕ, zero, suc, ◌+◌, ◌-◌, ◌*◌, ◌/◌, ◌%◌, ◌^◌, ◌<◌, ◌≤◌, List, ◌∷◌, ◌++◌, length, take, get_or, replicate, refl, sym, ap, ap₂, ◌∙◌, arith}
use Rattle.std.specs.Int.{w64, byte_at, bytes_high_first, from_be_bytes}
use Rattle.std.specs.Prelude.{All}
use Rattle.std.proofs.lemmas.List.{get_or_past}
use Rattle.std.proofs.lemmas.Bool.{cases_lt}
use Rattle.std.proofs.lemmas.Nat.{be_bytes_8, field_of, pow-add}
use Rattle.std.proofs.Math.Nat.{div-div-eq-div-mul, div-one, mul-div_cancel, mul-div-mul_right, mul-mod_left, one-le-pow, pow-suc, pow-succ', mul_assoc}
use Rattle.std.proofs.Math.Pow.{mod-mod-pow}

-- a byte of a number, by its place
byte_at-pow : (k x : ℕ) → byte_at k x ≡ x / 256 ^ k % 256
byte_at-pow k x = grind (arith, div-one)

pos256 : (n : ℕ) → zero < 256 ^ n
pos256 n = let h = one-le-pow n 256 (omega arith) in omega arith

-- powers of 256 are powers of 2
pub pow256 : (m : ℕ) → 2 ^ (8 * m) ≡ 256 ^ m
pow256 zero = refl
pow256 (suc m) =
    let more : 8 * suc m ≡ 8 + 8 * m = omega arith in
    ap (λ e. 2 ^ e) more ∙ pow-add 2 8 (8 * m) ∙ ap (λ x. 256 * x) (pow256 m) ∙ sym (pow-succ' 256 m)

-- what stands above a word of 64 bits changes none of its bytes
byte-in_word : (i x : ℕ) → i < 8 → byte_at i (x % 2 ^ 64) ≡ byte_at i x
byte-in_word i x within =
    let width : 64 ≡ (56 - 8 * i + 8) + 8 * i = omega arith in
    byte_at-pow i (x % 2 ^ 64)
    ∙ ap (λ p. x % 2 ^ 64 / p % 256) (sym (pow256 i))
    ∙ ap (λ w. x % 2 ^ w / 2 ^ (8 * i) % 256) width
    ∙ ap (λ y. y % 256) (field_of x (56 - 8 * i + 8) (8 * i))
    ∙ mod-mod-pow (x / 2 ^ (8 * i)) (56 - 8 * i) 8
    ∙ ap (λ p. x / p % 256) (pow256 i)
    ∙ sym (byte_at-pow i x)

bytes-in_word : (k x : ℕ) → k ≤ 8 → bytes_high_first k (x % 2 ^ 64) ≡ bytes_high_first k x
bytes-in_word k x within = grind (arith, ap₂, byte-in_word)

-- below a shifted number stand zeros
zero-byte : (k m n : ℕ) → k < m → byte_at k (n * 256 ^ m) ≡ 0
zero-byte k m n below =
    let e = m - suc k in
    let parts : m ≡ suc e + k = omega arith in
    byte_at-pow k (n * 256 ^ m)
    ∙ ap (λ w. n * 256 ^ w / 256 ^ k % 256) parts
    ∙ ap (λ p. n * p / 256 ^ k % 256) (pow-add 256 (suc e) k)
    ∙ ap (λ p. p / 256 ^ k % 256) (sym (mul_assoc n (256 ^ suc e) (256 ^ k)))
    ∙ ap (λ p. p % 256) (mul-div_cancel (n * 256 ^ suc e) (pos256 k))
    ∙ ap (λ p. n * p % 256) (pow-suc 256 e)
    ∙ ap (λ p. p % 256) (sym (mul_assoc n (256 ^ e) 256))
    ∙ mul-mod_left (n * 256 ^ e) 256

zero-bytes : (k m n : ℕ) → k ≤ m → bytes_high_first k (n * 256 ^ m) ≡ replicate k 0
zero-bytes zero m n within = refl
zero-bytes (suc k) m n within = ap₂ (λ b bs. b ∷ bs) (zero-byte k m n (omega arith)) (zero-bytes k m n (omega arith))

-- the bytes of a shifted number are its own, and zeros behind them
shifted-byte : (k m n : ℕ) → byte_at (k + m) (n * 256 ^ m) ≡ byte_at k n
shifted-byte k m n = grind (arith, byte_at-pow, pow-add, mul-div-mul_right, pos256)

shifted-bytes : (k m n : ℕ) → bytes_high_first (k + m) (n * 256 ^ m) ≡ bytes_high_first k n ++ replicate m 0
shifted-bytes zero m n = grind (arith, zero-bytes)
shifted-bytes (suc k) m n =
    let next : suc k + m ≡ suc (k + m) = omega arith in
    ap (λ w. bytes_high_first w (n * 256 ^ m)) next
    ∙ ap₂ (λ b bs. b ∷ bs) (shifted-byte k m n) (shifted-bytes k m n)

-- so many low bytes stand first in a word of 64 bits, and zeros behind them
pub low-bytes : (len n : ℕ) → len ≤ 8 → bytes_high_first 8 (n * 2 ^ (64 - 8 * len) % 2 ^ 64) ≡ bytes_high_first len n ++ replicate (8 - len) 0
low-bytes len n within =
    let room : 64 - 8 * len ≡ 8 * (8 - len) = omega arith in
    let all : 8 ≡ len + (8 - len) = omega arith in
    bytes-in_word 8 (n * 2 ^ (64 - 8 * len)) (omega arith)
    ∙ ap (λ w. bytes_high_first 8 (n * 2 ^ w)) room
    ∙ ap (λ p. bytes_high_first 8 (n * p)) (pow256 (8 - len))
    ∙ ap (λ k. bytes_high_first k (n * 256 ^ (8 - len))) all
    ∙ shifted-bytes len (8 - len) n

bytes-small : (bs : List ℕ) → All (λ byte. byte < 256) bs → (i : ℕ) → get_or bs i 0 < 256
bytes-small bs small i = grind (arith, cases_lt, get_or_past)

-- the first bytes of a number are those of its high part
high-byte : (k m n : ℕ) → byte_at (k + m) n ≡ byte_at k (n / 256 ^ m)
high-byte k m n = grind (arith, byte_at-pow, pow-add, div-div-eq-div-mul)

pub high-bytes : (k m n : ℕ) → take k (bytes_high_first (k + m) n) ≡ bytes_high_first k (n / 256 ^ m)
high-bytes zero m n = refl
high-bytes (suc k) m n =
    let next : suc k + m ≡ suc (k + m) = omega arith in
    ap (λ w. take (suc k) (bytes_high_first w n)) next ∙ ap₂ (λ b bs. b ∷ bs) (high-byte k m n) (high-bytes k m n)

-- all bytes of a number but the last one
pub front-bytes : (n number : ℕ) (bytes : List ℕ) → 0 < n → bytes_high_first n number ≡ bytes
    → bytes_high_first (n - 1) (number / 256) ≡ take (n - 1) bytes
front-bytes n number bytes some are = grind (arith, high-bytes)

-- the first of eight places are the low bytes of a number: that of all of them, shifted
pub places-number : (places : List ℕ) (len : ℕ) → length places ≡ 8 → All (λ byte. byte < 256) places → len ≤ 8
    → bytes_high_first len (from_be_bytes w64 places / 2 ^ (64 - 8 * len)) ≡ take len places
places-number places len room small few =
    let n = from_be_bytes w64 places in
    let width : 64 - 8 * len ≡ 8 * (8 - len) = omega arith in
    let all : len + (8 - len) ≡ 8 = omega arith in
    ap (λ w. bytes_high_first len (n / 2 ^ w)) width
    ∙ ap (λ p. bytes_high_first len (n / p)) (pow256 (8 - len))
    ∙ sym (high-bytes len (8 - len) n)
    ∙ ap (λ k. take len (bytes_high_first k n)) all
    ∙ ap (take len) (be_bytes_8 places n room (bytes-small places small) refl)

-- the last byte of a number
pub last-byte : (k n : ℕ) → get_or (bytes_high_first (suc k) n) k 0 ≡ n % 256
last-byte zero n = refl
last-byte (suc k) n = last-byte k n
