use Rattle.std.proofs.Common.{◌≡◌, ap, Ok, arith}
use Rattle.trigger_codec.specs.Bytes.{width_told}
use Rattle.trigger_codec.proofs.EightBytes.{trigger_frame-read, trigger_frame-told}
use Rattle.trigger_codec.proofs.message.decode.Goals as goal

pub returns-clause-trigger : goal.returns-clause-trigger
returns-clause-trigger c = grind (arith, trigger_frame-read)

pub returns-clause-every : goal.returns-clause-every
returns-clause-every c =
    let frame = c.args.frame.now in
    let window : c.from-l.result ≡ width_told frame.bytes = omega arith in
    λ cycle l mask within below is. rw (c.byte-3.ensures.value, window, c.flags-mask.ensures) (ap Ok (trigger_frame-told frame cycle l mask is))
