-- The digits of eight data bytes.
use Rattle.std.proofs.Common.{◌≡◌, ℕ, ◌+◌, ◌-◌, ◌*◌, List, [], ◌∷◌, ◌++◌, drop, length, refl, sym, ap, ◌∙◌, arith}
use Rattle.std.specs.Int.{bytes_high_first}
use Rattle.std.specs.List.{flat_map}
use Rattle.std.proofs.lemmas.List.{append-nil, length-drop}
use Rattle.text_fields.specs.Hexadecimal.{hex_digits}
use Rattle.text_fields.proofs.ByteDigits.{length-data}

-- the digits that were put fill the whole of their room
pub all-put : (bytes digits rest : List ℕ) (start : ℕ) → drop start digits ≡ flat_map (hex_digits 2) bytes ++ rest
    → rest ≡ [] → length bytes ≡ 8 → length digits ≡ 16 → digits ≡ flat_map (hex_digits 2) bytes
all-put bytes digits rest start put none eight room =
    let whole : drop start digits ≡ flat_map (hex_digits 2) bytes =
    put
    ∙ ap (λ (l : List ℕ). flat_map (hex_digits 2) bytes ++ l) none
    ∙ append-nil (flat_map (hex_digits 2) bytes) in
    let some = ap length whole in
    let left = length-drop start digits in
    let all = length-data bytes in
    let first : start ≡ 0 = omega arith in
    ap (λ n. drop n digits) (sym first) ∙ whole

-- those of zeros
pub all-zeros : 48 ∷ 48 ∷ 48 ∷ 48 ∷ 48 ∷ 48 ∷ 48 ∷ 48 ∷ 48 ∷ 48 ∷ 48 ∷ 48 ∷ 48 ∷ 48 ∷ 48 ∷ 48 ∷ []
    ≡ flat_map (hex_digits 2) (bytes_high_first 8 0)
unfolding hex_digits
all-zeros = refl
