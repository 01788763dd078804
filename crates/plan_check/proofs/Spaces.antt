-- The space between the mask and the count of a run.
use Rattle.std.proofs.Common.{ℕ, ◌^◌, ◌<◌, refl, arith}
use Rattle.std.specs.Char.{is_ascii_digit}
use Rattle.std.specs.Fmt.{decimal}
use Rattle.text_fields.specs.Hexadecimal.{is_hex_digit}
use Rattle.text_fields.specs.MaskText.{mask_digits, mask_width}
use Rattle.text_fields.proofs.Shared.{all-decimal, all-hex, no-all}
use Rattle.plan_check.specs.PlanText.{HasNoSpace}

-- the digits of a mask have no space
pub mask-space : (mask : ℕ) → HasNoSpace (mask_digits mask)
unfolding mask_digits
mask-space mask = no-all 32 is_hex_digit refl (mask_digits mask) (all-hex (mask_width mask) mask)

-- the digits of a count have no space
pub decimal-space : (n : ℕ) → n < 2 ^ 42 → HasNoSpace (decimal n)
decimal-space n small = no-all 32 is_ascii_digit refl (decimal n) (all-decimal n (omega arith))
