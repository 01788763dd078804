-- The bits before the data, and the CRC sequence, in parts of at most eight bits.
use Rattle.std.proofs.Common.{◌≡◌, ℕ, ◌+◌, ◌*◌, ◌/◌, ◌%◌, ◌^◌, ◌<◌, ◌++◌, sym, ap, ◌∙◌, arith}
use Rattle.stuff_bound.specs.Fields.{bits}
use Rattle.stuff_bound.proofs.Shared.{bits-append}
use Rattle.can_frame.specs.Wire.{header}
use Rattle.can_frame.proofs.Plain.{header-bits}

-- a field, and its last eight bits behind the others
and-byte : (width value : ℕ) → bits (width + 8) value ≡ bits width (value / 0x100) ++ bits 8 (value % 0x100)
and-byte width value =
    let parts : value ≡ value / 0x100 * 2 ^ 8 + value % 0x100 = omega arith in
    ap (bits (width + 8)) parts ∙ bits-append width 8 (value / 0x100) (value % 0x100) (omega arith)

-- the bits before the data
pub header-parts : (id n value : ℕ) → id < 2 ^ 11 → n < 2 ^ 4 → value ≡ 128 * id + n → (bits 3 (value / 0x10000) ++ bits 8 (value / 0x100 % 0x100)) ++ bits 8 (value % 0x100) ≡ header id n
header-parts id n value small few is =
    let higher : value / 0x100 / 0x100 ≡ value / 0x10000 = omega arith in
    let first : bits 11 (value / 0x100) ≡ bits 3 (value / 0x10000) ++ bits 8 (value / 0x100 % 0x100) = and-byte 3 (value / 0x100) ∙ ap (λ top. bits 3 top ++ bits 8 (value / 0x100 % 0x100)) higher in
    ap (λ field. field ++ bits 8 (value % 0x100)) (sym first) ∙ sym (and-byte 11 value) ∙ ap (bits 19) is ∙ sym (header-bits id n small few)

-- the CRC sequence
pub sequence-parts : (sequence : ℕ) → bits 7 (sequence / 0x100) ++ bits 8 (sequence % 0x100) ≡ bits 15 sequence
sequence-parts sequence = sym (and-byte 7 sequence)
