-- Numbers that are made byte by byte, the most significant one first.
use Rattle.std.proofs.Common.{◌≡◌, ◌∙◌, ap, ap₂, refl, sym, ℕ, zero, suc, ◌+◌, ◌*◌, ◌/◌, ◌%◌, ◌^◌, ◌<◌, [], ◌∷◌, ◌++◌, arith}
use Rattle.std.proofs.Math.Nat.{div-div-eq-div-mul, div-one, pow-suc, pow-succ'}
use Rattle.std.proofs.lemmas.Nat.{div-mul-add, mod-mul-add}
use Rattle.std.specs.Int.{byte_at, bytes_high_first}
use Rattle.generated_input.specs.Generator.{draw, each_below, state_after}
use Rattle.generated_input.proofs.GeneratorDraws.{byte_drawn, each_more}

byte-divided : (k n : ℕ) → n / 256 ^ k % 256 ≡ byte_at k n
byte-divided zero n = ap (λ m. m % 256) (div-one n)
byte-divided (suc k) n = refl

-- a byte behind a number moves each of its bytes up by one place
byte-moved : (k n byte : ℕ) → byte < 256 → byte_at (suc k) (n * 256 + byte) ≡ byte_at k n
byte-moved k n byte small =
    ap (λ p. (n * 256 + byte) / p % 256) (pow-succ' 256 k)
    ∙ ap (λ m. m % 256) (sym (div-div-eq-div-mul (n * 256 + byte) 256 (256 ^ k)))
    ∙ ap (λ m. m / 256 ^ k % 256) (div-mul-add n 256 byte small)
    ∙ byte-divided k n

bytes-moved : (k n byte : ℕ) → byte < 256 → bytes_high_first (suc k) (n * 256 + byte) ≡ bytes_high_first k n ++ byte ∷ []
bytes-moved zero n byte small = ap (λ b. b ∷ []) (mod-mul-add n 256 byte small)
bytes-moved (suc k) n byte small = ap₂ (λ b bs. b ∷ bs) (byte-moved k n byte small) (bytes-moved k n byte small)

-- a number of so many bytes, with one more
pub byte_fits : (n count byte : ℕ) → n < 256 ^ count → byte < 256 → n * 256 + byte < 256 ^ (count + 1)
byte_fits n count byte small below =
    let more : count + 1 ≡ suc count = omega arith in
    let power : 256 ^ (count + 1) ≡ 256 ^ count * 256 = ap (λ e. 256 ^ e) more ∙ pow-suc 256 count in
    omega (arith, small, below, power)

-- where the bytes of a number are draws, so are they with the next draw behind them
pub byte_more : (start state count n byte : ℕ) → bytes_high_first count n ≡ each_below count (λ place. draw start (2 + place) % 256)
    → state ≡ state_after start (1 + count) → byte ≡ draw state 1 % 256 → byte < 256
    → bytes_high_first (count + 1) (n * 256 + byte) ≡ each_below (count + 1) (λ place. draw start (2 + place) % 256)
byte_more start state count n byte so_far state_is byte_is small =
    let more : count + 1 ≡ suc count = omega arith in
    ap (λ k. bytes_high_first k (n * 256 + byte)) more
    ∙ bytes-moved count n byte small
    ∙ (λ i. so_far i ++ byte_drawn start state count byte state_is byte_is i ∷ [])
    ∙ sym (each_more count (λ place. draw start (2 + place) % 256))
