-- A line is known by its line feed.
use Rattle.std.proofs.Common.{◌≡◌, ℕ, List, ◌∷◌, ◌++◌, ◌^◌, ◌<◌, refl, sym, ◌∙◌}
use Rattle.std.specs.Char.{is_ascii_digit}
use Rattle.std.specs.Fmt.{decimal}
use Rattle.text_fields.specs.Hexadecimal.{hex_digits, is_hex_digit}
use Rattle.text_fields.specs.Lines.{HasNoFeed}
use Rattle.text_fields.proofs.DecimalDigits.{all-decimal}
use Rattle.text_fields.proofs.HexDigits.{all-hex}
use Rattle.text_fields.proofs.Splits.{no-all, no-append, no-rest, no_split, same_split}

pub feed-rest : (x : ℕ) (xs : List ℕ) → HasNoFeed (x ∷ xs) → HasNoFeed xs
feed-rest = no-rest 10

pub same_line : (xs ys r s : List ℕ) → HasNoFeed xs → HasNoFeed ys → xs ++ 10 ∷ r ≡ ys ++ 10 ∷ s → (xs ≡ ys) × (r ≡ s)
same_line = same_split 10

-- a text without a line feed begins with no line
pub no_line : (xs line r : List ℕ) → HasNoFeed xs → xs ≡ line ++ 10 ∷ r → ⊥
no_line = no_split 10

pub no_feed-append : (xs ys : List ℕ) → HasNoFeed xs → HasNoFeed ys → HasNoFeed (xs ++ ys)
no_feed-append = no-append 10

-- what has digits alone has no line feed
pub no_feed-decimal : (n : ℕ) → n < 2 ^ 64 → HasNoFeed (decimal n)
no_feed-decimal n small = no-all 10 is_ascii_digit refl (decimal n) (all-decimal n small)

pub no_feed-hex : (k n : ℕ) → HasNoFeed (hex_digits k n)
no_feed-hex k n = no-all 10 is_hex_digit refl (hex_digits k n) (all-hex k n)

-- the first line is the one that the text begins with
pub line-is : (text line after x a : List ℕ) → text ≡ line ++ 10 ∷ after → HasNoFeed line → HasNoFeed x → text ≡ x ++ 10 ∷ a → line ≡ x
line-is text line after x a is clean other there = (same_line line x after a clean other (sym is ∙ there)).0
