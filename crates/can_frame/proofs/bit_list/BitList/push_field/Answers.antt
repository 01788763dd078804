-- Each step puts the bit at its place behind those above it.
use Rattle.std.proofs.Common.{refl, arith}
use Rattle.can_frame.proofs.Fields.{bits-none, bits-next}
use Rattle.can_frame.proofs.bit_list.BitList.push_field.Goals as goal

pub loop-place-init : goal.loop-place-init
loop-place-init c = record { grown = refl; pushed = bits-none _ _ _ }

pub loop-place-preserved : goal.loop-place-preserved
loop-place-preserved c = grind (arith, bits-next)
