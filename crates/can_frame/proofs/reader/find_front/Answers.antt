-- A frame with its own sequence was read.
use Rattle.std.proofs.Common.{ap, ◌∙◌}
use Rattle.stuff_bound.specs.Stuffing.{stuffed}
use Rattle.can_frame.specs.Wire.{with_sequence, plain}
use Rattle.can_frame.proofs.reader.find_front.Goals as goal

pub finish-requires-clause-stuffed : goal.finish-requires-clause-stuffed
unfolding plain
finish-requires-clause-stuffed c =
    c.in_ok-frame.ensures.ok
    ∙ ap (λ sequence. stuffed (with_sequence c.in_ok-frame.frame sequence))
    (c.if-sent-computed.false ∙ c.crc-computed.ensures.value)
