-- Words between bytes 0: the first one, and those of what follows it.
use Rattle.std.proofs.Common.{◌≡◌, ◌≢◌, ℕ, ◌+◌, ◌<◌, ◌==◌, true, false, List, [], ◌∷◌, ◌++◌, cond, length, get_or, refl, arith}
use Rattle.std.proofs.lemmas.Bool.Decides.{nat_tests}
use Rattle.std.proofs.lemmas.Grind.{common_steps}
use Rattle.std.proofs.lemmas.Str.{IsUtf8-from_is_utf8, is_utf8-from_IsUtf8}
use Rattle.std.specs.List.{slice_split}
use Rattle.std.specs.Str.{IsUtf8, is_utf8}
use Rattle.fttcan_run_c.specs.Called.{words_of}

-- no byte of these is 0
abbrev pub HasNoZero : List ℕ → Type 0
HasNoZero bytes = (place : ℕ) → place < length bytes → get_or bytes place 0 ≢ 0

no-zero-later : (byte : ℕ) (bytes : List ℕ) → HasNoZero (byte ∷ bytes) → HasNoZero bytes
no-zero-later byte bytes none place within = let there = none (place + 1) (grind (arith, common_steps)) in grind (arith, common_steps)

no-zero-first : (byte : ℕ) (bytes : List ℕ) → HasNoZero (byte ∷ bytes) → (byte == 0) ≡ false
no-zero-first byte bytes none = let first : byte ≢ 0 = none 0 (grind (arith, common_steps)) in grind (arith, nat_tests)

-- the bytes in front of a byte 0 are the first word
pub word-in-front : (word rest : List ℕ) → HasNoZero word
    → slice_split (λ byte. byte == 0) (word ++ 0 ∷ rest) ≡ word ∷ slice_split (λ byte. byte == 0) rest
word-in-front [] rest none = refl
word-in-front (byte ∷ word) rest none =
    rw (no-zero-first byte word none, word-in-front word rest (no-zero-later byte word none)) refl

-- bytes with no byte 0 are one word
pub word-alone : (word : List ℕ) → HasNoZero word → slice_split (λ byte. byte == 0) word ≡ word ∷ []
word-alone [] none = refl
word-alone (byte ∷ word) none = rw (no-zero-first byte word none, word-alone word (no-zero-later byte word none)) refl

-- the words of a text, and of bytes that are none
pub words-of-text : (bytes : List ℕ) → IsUtf8 bytes → slice_split (λ byte. byte == 0) bytes ≡ words_of bytes
words-of-text bytes text = rw (is_utf8-from_IsUtf8 bytes text) refl

pub words-of-no-text : (bytes : List ℕ) → (IsUtf8 bytes → ⊥) → [] ≡ words_of bytes
words-of-no-text bytes none =
    elim (is_utf8 bytes) as (λ text. is_utf8 bytes ≡ text → [] ≡ cond text (slice_split (λ byte. byte == 0) bytes) []) [
      | true ↦ λ text. absurd (none (IsUtf8-from_is_utf8 bytes text))
      | false ↦ λ text. refl
    ] refl
