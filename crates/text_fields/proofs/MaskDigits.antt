-- The text of a set of slots: what is written is read, and what is read is what is written.
use Rattle.std.proofs.Common.{◌≡◌, ℕ, ◌-◌, ◌^◌, ◌<◌, ◌≤◌, ◌==◌, true, false, List, length, Option, Some, None, option_and_then, IfNone, IfSome, nat_le, nat_lt, subst, refl, sym, ap, ◌∙◌, inl, inr, arith}
use Rattle.std.proofs.lemmas.Bool.{cases_lt, cases_Bool, cond-false, cond-true, eqb-true, eq-eqb}
use Rattle.std.proofs.lemmas.Bool.Decides.{nat_tests}
use Rattle.std.proofs.lemmas.Option.{same_Some}
use Rattle.text_fields.specs.Decimal.{within}
use Rattle.text_fields.specs.Hexadecimal.{hex_digits, hex_of}
use Rattle.text_fields.specs.Lines.{HasNoFeed}
use Rattle.text_fields.specs.MaskText.{mask_digits, mask_of, mask_width}
use Rattle.text_fields.proofs.HexDigits.{length-hex}
use Rattle.text_fields.proofs.HexNumbers.{digits-of_hex, hex_of-digits}
use Rattle.text_fields.proofs.LineFeeds.{no_feed-hex}
use Rattle.text_fields.proofs.Ranges.{within-found, within-is}

few-width : (mask : ℕ) → mask < 2 ^ 40 → mask_width mask ≡ 10
few-width mask small = let test : nat_lt mask (2 ^ 40) ≡ true = grind (arith, nat_tests) in rw test

all-width : (mask : ℕ) → 2 ^ 40 ≤ mask → mask_width mask ≡ 24
all-width mask great = let test : nat_lt mask (2 ^ 40) ≡ false = grind (arith, nat_tests) in rw test

few-digits : (mask : ℕ) → mask < 2 ^ 40 → mask_digits mask ≡ hex_digits 10 mask
unfolding mask_digits
few-digits mask small = ap (λ count. hex_digits count mask) (few-width mask small)

all-digits : (mask : ℕ) → 2 ^ 40 ≤ mask → mask_digits mask ≡ hex_digits 24 mask
unfolding mask_digits
all-digits mask great = ap (λ count. hex_digits count mask) (all-width mask great)

-- What is written is read

-- what a longer or shorter field is read as
abbrev narrow : Option ℕ → Option ℕ
narrow read = option_and_then (within (2 ^ 40) (2 ^ 96 - 1)) read

pub mask_of-few : (field : List ℕ) (k : ℕ) → k ≡ 10 → length field ≡ k → mask_of field ≡ hex_of k field
unfolding mask_of
mask_of-few field k is size = let test : (length field == 10) ≡ true = eq-eqb _ _ (size ∙ is) in cond-true (length field == 10) (hex_of 10 field) (narrow (hex_of 24 field)) test ∙ (ap (λ count. hex_of count field) (sym is))

pub mask_of-all : (field : List ℕ) (k : ℕ) → k ≡ 24 → (length field ≡ 10 → ⊥) → mask_of field ≡ narrow (hex_of k field)
unfolding mask_of
mask_of-all field k is other =
    elim (cases_Bool (length field == 10)) [
      | inl short ↦ absurd (other (eqb-true (length field) 10 short))
      | inr long ↦ cond-false (length field == 10) (hex_of 10 field) (narrow (hex_of 24 field)) long ∙ (ap (λ count. narrow (hex_of count field)) (sym is))
    ]

pub mask_of-digits : (mask : ℕ) → mask < 2 ^ 96 → mask_of (mask_digits mask) ≡ Some mask
mask_of-digits mask small =
    elim (cases_lt mask (2 ^ 40)) [
      | inl low ↦
          ap mask_of (few-digits mask low) ∙ mask_of-few (hex_digits 10 mask) 10 refl (length-hex 10 mask) ∙ hex_of-digits 10 mask (omega arith)
      | inr high ↦
          let size = length-hex 24 mask in
          ap mask_of (all-digits mask high) ∙ mask_of-all (hex_digits 24 mask) 24 refl (λ is. omega arith)
          ∙ ap narrow (hex_of-digits 24 mask (omega arith))
          ∙ within-found (2 ^ 40) (2 ^ 96 - 1) mask high (omega arith)
    ]

-- What is read is what is written

narrowed : (read : Option ℕ) (mask : ℕ) → narrow read ≡ Some mask → (read ≡ Some mask) × (2 ^ 40 ≤ mask)
narrowed None mask is = absurd (cc)
narrowed (Some n) mask is = let (same, least, most) = within-is (2 ^ 40) (2 ^ 96 - 1) n mask is in (ap (λ v. Some v) same, least)

pub digits-of_mask : (field : List ℕ) (mask : ℕ) → mask_of field ≡ Some mask → (field ≡ mask_digits mask) × (mask < 2 ^ 96)
digits-of_mask field mask read =
    elim (cases_Bool (length field == 10)) [
      | inl is ↦
          let (digits, small) = digits-of_hex 10 field mask (sym (mask_of-few field 10 refl (eqb-true (length field) 10 is)) ∙ read) in
          (digits ∙ sym (few-digits mask (omega arith)), omega arith)
      | inr long ↦
          let other : length field ≡ 10 → ⊥ = λ size. let test = eq-eqb _ _ size in absurd (cc) in
          let (found, great) = narrowed (hex_of 24 field) mask (sym (mask_of-all field 24 refl other) ∙ read) in
          let (digits, small) = digits-of_hex 24 field mask found in
          (digits ∙ sym (all-digits mask great), omega arith)
    ]

-- two sets with the same text are one
pub mask-injective : (m n : ℕ) → m < 2 ^ 96 → n < 2 ^ 96 → mask_digits m ≡ mask_digits n → m ≡ n
mask-injective m n small other is = same_Some m n (sym (mask_of-digits m small) ∙ ap mask_of is ∙ mask_of-digits n other)

pub no_feed-mask : (mask : ℕ) → HasNoFeed (mask_digits mask)
unfolding mask_digits
no_feed-mask mask = no_feed-hex (mask_width mask) mask

pub length-mask : (mask : ℕ) → (mask < 2 ^ 40 → length (mask_digits mask) ≡ 10) × (2 ^ 40 ≤ mask → length (mask_digits mask) ≡ 24)
length-mask mask = (λ low. ap length (few-digits mask low) ∙ length-hex 10 mask, λ high. ap length (all-digits mask high) ∙ length-hex 24 mask)

-- The reader

pub found-of : (field : List ℕ) (read : Option ℕ) → read ≡ mask_of field → IfSome read (λ mask. field ≡ mask_digits mask)
found-of field None is = tt
found-of field (Some mask) is = (digits-of_mask field mask (sym is)).0

pub none-of : (field : List ℕ) (read : Option ℕ) → read ≡ mask_of field → IfNone read ((mask : ℕ) → mask < 2 ^ 96 → field ≡ mask_digits mask → ⊥)
none-of field (Some mask) is = tt
none-of field None is = λ mask small written. let found = ap mask_of written ∙ mask_of-digits mask small in absurd (cc)

-- a field that is read by its 24 digits
module _ (field : List ℕ) (k : ℕ) (is : k ≡ 24) (other : length field ≡ 10 → ⊥) where
  pub all-none : None ≡ hex_of k field → None ≡ mask_of field
  all-none read = ap narrow read ∙ sym (mask_of-all field k is other)

  pub all-some : (mask : ℕ) → Some mask ≡ hex_of k field → mask < 16 ^ k → 2 ^ 40 ≤ mask → Some mask ≡ mask_of field
  all-some mask read small great =
      let below : mask < 2 ^ 96 = subst (λ count. mask < 16 ^ count) is small in
      sym (within-found (2 ^ 40) (2 ^ 96 - 1) mask great (omega arith)) ∙ ap narrow read ∙ sym (mask_of-all field k is other)

  pub all-small : (mask : ℕ) → Some mask ≡ hex_of k field → mask < 2 ^ 40 → None ≡ mask_of field
  all-small mask read low =
      let test : nat_le (2 ^ 40) mask ≡ false = grind (arith, nat_tests) in
      let fails : narrow (Some mask) ≡ None = rw test in
      sym fails ∙ ap narrow read ∙ sym (mask_of-all field k is other)
