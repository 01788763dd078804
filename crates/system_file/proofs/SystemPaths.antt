-- A path as it is shown.
use Rattle.std.proofs.Common.{◌≡◌, ℕ, List, [], ◌∷◌, ◌++◌, length, encode_utf8, IsUtf8, ap, arith}
use Rattle.std.proofs.lemmas.Str.{chars-nil, chars_past_char}
use Rattle.std.specs.Str.{encode_utf8_all}
use Rattle.std.specs.Prelude.{map}
use Rattle.system_file.specs.SystemText.{shown_character, shown_path}

-- nothing is shown of a path without characters
pub shown_nothing : (path : List ℕ) → length path ≡ 0 → shown_path path ≡ []
unfolding shown_path
shown_nothing [] none = ap (λ all. encode_utf8_all (map shown_character all)) chars-nil
shown_nothing (byte ∷ path) none = absurd (omega arith)

-- the path is shown character by character
pub shown_step : (path rest : List ℕ) (character : ℕ) → IsUtf8 path → path ≡ encode_utf8 character ++ rest
    → shown_path path ≡ encode_utf8 (shown_character character) ++ shown_path rest
unfolding shown_path
shown_step path rest character utf8 parts = ap (λ all. encode_utf8_all (map shown_character all)) (chars_past_char path rest character utf8 parts)
