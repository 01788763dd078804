use Rattle.std.proofs.Common.{sym, lit≤}
use Rattle.generated_input.proofs.ByteNumbers.{byte_fits, byte_more}
use Rattle.generated_input.proofs.GeneratorDraws.{byte_state, each_none}
use Rattle.generated_input.proofs.generating.Draws.frame.Goals as goal

pub loop-init : goal.loop-init
loop-init c = record { small = lit≤ tt; made = sym (each_none _); state = c.below-count.ensures.state }

pub loop-preserved : goal.loop-preserved
loop-preserved c =
    let so_far = c.loop.invariant in
    record {
      small = byte_fits c.loop.number c.loop.counter c.below.result so_far.small c.below.ensures.below;
      made = byte_more _ _ c.loop.counter c.loop.number c.below.result so_far.made so_far.state c.below.ensures.value c.below.ensures.below;
      state = byte_state _ _ _ _ so_far.state c.below.ensures.state;
    }
