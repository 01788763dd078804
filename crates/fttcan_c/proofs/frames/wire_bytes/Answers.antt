use Rattle.std.proofs.Common.{List, ℕ, ◌≤◌, ◌∙◌, ap, length, map, subst, sym}
use Rattle.std.specs.Int.{from_bool}
use Rattle.fttcan_c.proofs.Few.{few_bits}
use Rattle.fttcan_c.proofs.frames.wire_bytes.Goals as goal

pub returns-clause-most : goal.returns-clause-most
returns-clause-most c =
    subst (λ (bytes : List ℕ). length bytes ≤ 135)
    (sym (c.in_ok-bytes.ensures.bytes ∙ ap (map from_bool) (c.as_slice.ensures.value ∙ c.in_ok-bits.ensures.value)))
    (few_bits c.in-Ok.frame c.in_ok-bits.ensures.legal (c.wire_lengths.ensures.at_most c.in-Ok.frame))
