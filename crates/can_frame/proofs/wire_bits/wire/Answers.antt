-- The thirteen bits stand behind the stuffed part.
use Rattle.std.proofs.Common.{◌++◌, ap, ◌∙◌}
use Rattle.stuff_bound.specs.Stuffing.{stuffed}
use Rattle.can_frame.specs.Wire.{wire_of, trailer}
use Rattle.can_frame.proofs.wire_bits.wire.Goals as goal

pub returns-clause-value : goal.returns-clause-value
unfolding wire_of
returns-clause-value c =
    c.in_ok-extend_from_slice.ensures.items
    ∙ ap (λ bits. bits ++ trailer)
    (c.in_ok-bits.ensures.value ∙ ap stuffed (c.as_slice.ensures.value ∙ c.plain_bits-list.ensures.value))
