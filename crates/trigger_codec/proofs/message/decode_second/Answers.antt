use Rattle.std.proofs.Common.{arith}
use Rattle.trigger_codec.proofs.EightBytes.{second_frame-read, second_frame-told, second_frame-high}
use Rattle.trigger_codec.proofs.message.decode_second.Goals as goal

pub returns-clause-second : goal.returns-clause-second
returns-clause-second c = grind (arith, second_frame-read)

pub returns-clause-flags : goal.returns-clause-flags
returns-clause-flags c =
    second_frame-high c.args.frame.now c.byte.result c.second_flags-mask.result (omega arith) (returns-clause-second c) c.second_flags-mask.ensures

pub returns-clause-every : goal.returns-clause-every
returns-clause-every c = grind (arith, second_frame-told)
