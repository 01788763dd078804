-- A number is written as its digits above the last four and these four.
use Rattle.std.proofs.Common.{◌≡◌, ℕ, suc, ◌+◌, ◌-◌, ◌*◌, ◌/◌, ◌%◌, ◌^◌, ◌<◌, ◌≤◌, List, [], ◌∷◌, ◌++◌, refl, sym, ap, ◌∙◌, true, arith, append_assoc, get_or, drop, length}
use Rattle.std.specs.Fmt.{decimal}
use Rattle.std.specs.List.{flat_map}
use Rattle.std.proofs.lemmas.Fmt.{decimal_digit, decimal_step}
use Rattle.std.proofs.lemmas.List.{drop_all, drop-append-le, drop-drop}
use Rattle.std.proofs.Math.Seq.{drop-cons}
use Rattle.stuff_bound.proofs.Shared.{are_entries, entry-is}
use Rattle.text_fields.specs.DecimalPairs.{decimal_digit_at}
use Rattle.text_fields.specs.Hexadecimal.{hex_digits}
use Rattle.text_fields.specs.declared.decimal_pairs.TheConstants.{DECIMAL_PAIRS}

-- The table of pairs

all_digits : are_entries decimal_digit_at 0 DECIMAL_PAIRS ≡ true
unfolding decimal_digit_at
all_digits = refl

pub digit_is : (place : ℕ) → place < 200 → get_or DECIMAL_PAIRS place 0 ≡ decimal_digit_at place
digit_is place within = entry-is decimal_digit_at place DECIMAL_PAIRS all_digits within

pub tens_is : (number : ℕ) → decimal_digit_at (2 * number) ≡ 48 + number / 10
unfolding decimal_digit_at
tens_is number =
    let even : 2 * number % 2 ≡ 0 = omega arith in
    let half : 2 * number / 2 ≡ number = omega arith in
    rw (even, half) refl

pub ones_is : (number : ℕ) → decimal_digit_at (2 * number + 1) ≡ 48 + number % 10
unfolding decimal_digit_at
ones_is number =
    let odd : (2 * number + 1) % 2 ≡ 1 = omega arith in
    let half : (2 * number + 1) / 2 ≡ number = omega arith in
    rw (odd, half) refl

-- Digits of numbers

-- the last digit stands behind those of the number without it
step : (n high : ℕ) (rest : List ℕ) → n / 10 ≡ high → 10 ≤ n → n < 2 ^ 64 → decimal n ++ rest ≡ decimal high ++ (48 + n % 10) ∷ rest
step n high rest is some small =
    ap (λ digits. digits ++ rest) (decimal_step n some small)
    ∙ append_assoc (decimal (n / 10)) ((48 + n % 10) ∷ []) rest
    ∙ ap (λ m. decimal m ++ (48 + n % 10) ∷ rest) is

-- from 100 to 199: a one, and a pair
pub hundred : (n : ℕ) (rest : List ℕ) → 100 ≤ n → n < 200 → decimal n ++ rest ≡ 49 ∷ (48 + (n - 100) / 10) ∷ (48 + (n - 100) % 10) ∷ rest
hundred n rest above below =
    let one : n / 10 / 10 ≡ 1 = omega arith in
    let tens : n / 10 % 10 ≡ (n - 100) / 10 = omega arith in
    let ones : n % 10 ≡ (n - 100) % 10 = omega arith in
    step n (n / 10) rest refl (omega arith) (omega arith)
    ∙ step (n / 10) 1 ((48 + n % 10) ∷ rest) one (omega arith) (omega arith)
    ∙ ap (λ digits. digits ++ (48 + n / 10 % 10) ∷ (48 + n % 10) ∷ rest) (decimal_digit 1 (omega arith))
    ∙ ap (λ d. 49 ∷ (48 + d) ∷ (48 + n % 10) ∷ rest) tens
    ∙ ap (λ d. 49 ∷ (48 + (n - 100) / 10) ∷ (48 + d) ∷ rest) ones

-- the last four digits stand behind those of the number above them, two pairs
pub low_four : (base low : ℕ) (rest : List ℕ) → base / 10000 * 10000 ≡ base → 10000 ≤ base → base < 10 ^ 12 → low < 10000
    → decimal (base + low) ++ rest
    ≡ decimal (base / 10000) ++ (48 + low / 100 / 10) ∷ (48 + low / 100 % 10) ∷ (48 + low % 100 / 10) ∷ (48 + low % 100 % 10) ∷ rest
low_four base low rest fours some small few =
    let n = base + low in
    let high : n / 10 / 10 / 10 / 10 ≡ base / 10000 = omega arith in
    let first : n / 10 / 10 / 10 % 10 ≡ low / 100 / 10 = omega arith in
    let second : n / 10 / 10 % 10 ≡ low / 100 % 10 = omega arith in
    let third : n / 10 % 10 ≡ low % 100 / 10 = omega arith in
    let fourth : n % 10 ≡ low % 100 % 10 = omega arith in
    step n (n / 10) rest refl (omega arith) (omega arith)
    ∙ step (n / 10) (n / 10 / 10) ((48 + n % 10) ∷ rest) refl (omega arith) (omega arith)
    ∙ step (n / 10 / 10) (n / 10 / 10 / 10) ((48 + n / 10 % 10) ∷ (48 + n % 10) ∷ rest) refl (omega arith) (omega arith)
    ∙ step (n / 10 / 10 / 10) (base / 10000) ((48 + n / 10 / 10 % 10) ∷ (48 + n / 10 % 10) ∷ (48 + n % 10) ∷ rest) high (omega arith) (omega arith)
    ∙ ap (λ d. decimal (base / 10000) ++ (48 + d) ∷ (48 + n / 10 / 10 % 10) ∷ (48 + n / 10 % 10) ∷ (48 + n % 10) ∷ rest) first
    ∙ ap (λ d. decimal (base / 10000) ++ (48 + low / 100 / 10) ∷ (48 + d) ∷ (48 + n / 10 % 10) ∷ (48 + n % 10) ∷ rest) second
    ∙ ap (λ d. decimal (base / 10000) ++ (48 + low / 100 / 10) ∷ (48 + low / 100 % 10) ∷ (48 + d) ∷ (48 + n % 10) ∷ rest) third
    ∙ ap (λ d. decimal (base / 10000) ++ (48 + low / 100 / 10) ∷ (48 + low / 100 % 10) ∷ (48 + low % 100 / 10) ∷ (48 + d) ∷ rest) fourth

-- Bytes before what stands, from the last one to the first

pub none-put : (f : ℕ → List ℕ) (bytes xs : List ℕ) (place : ℕ) → length bytes ≤ place → xs ≡ flat_map f (drop place bytes) ++ xs
none-put f bytes xs place all = ap (λ l. flat_map f l ++ xs) (sym (drop_all place bytes all))

pub place-put : (f : ℕ → List ℕ) (bytes xs row later : List ℕ) (place d : ℕ) → place < length bytes
    → row ≡ f (get_or bytes place d) ++ later → later ≡ flat_map f (drop (place + 1) bytes) ++ xs → row ≡ flat_map f (drop place bytes) ++ xs
place-put f bytes xs row later place d within first rest =
    let next : place + 1 ≡ suc place = omega arith in
    first
    ∙ ap (λ l. f (get_or bytes place d) ++ l) (rest ∙ ap (λ n. flat_map f (drop n bytes) ++ xs) next)
    ∙ sym (append_assoc (f (get_or bytes place d)) (flat_map f (drop (suc place) bytes)) xs)
    ∙ ap (λ l. flat_map f l ++ xs) (sym (drop-cons bytes place d within))

-- the digits of a byte that is 0
pub zero-digits : (byte : ℕ) (later : List ℕ) → byte ≡ 0 → 48 ∷ 48 ∷ later ≡ hex_digits 2 byte ++ later
unfolding hex_digits
zero-digits byte later is = rw is refl

pub none-stand : (bytes xs : List ℕ) (place : ℕ) → length bytes ≤ place → xs ≡ drop place bytes ++ xs
none-stand bytes xs place all = ap (λ l. l ++ xs) (sym (drop_all place bytes all))

pub byte-put : (bytes xs row later : List ℕ) (place d : ℕ) → place < length bytes
    → row ≡ get_or bytes place d ∷ later → later ≡ drop (place + 1) bytes ++ xs → row ≡ drop place bytes ++ xs
byte-put bytes xs row later place d within first rest =
    let next : place + 1 ≡ suc place = omega arith in
    first
    ∙ ap (λ l. get_or bytes place d ∷ l) (rest ∙ ap (λ n. drop n bytes ++ xs) next)
    ∙ ap (λ l. l ++ xs) (sym (drop-cons bytes place d within))

-- the kept digits from their first one on, before what stands
pub kept-put : (digits row xs : List ℕ) (start first : ℕ) → first ≤ length digits → drop start row ≡ digits ++ xs
    → drop (start + first) row ≡ drop first digits ++ xs
kept-put digits row xs start first within is =
    sym (drop-drop first start row) ∙ ap (drop first) is ∙ drop-append-le first digits xs within
