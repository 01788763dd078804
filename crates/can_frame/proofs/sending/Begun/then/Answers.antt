-- One byte more.
use Rattle.std.proofs.Common.{arith}
use Rattle.can_frame.specs.Begun.{begun_bits}
use Rattle.can_frame.proofs.Begun.{more-begun}
use Rattle.can_frame.proofs.sending.Begun.then.Goals as goal

pub returns-clause-begun : goal.returns-clause-begun
returns-clause-begun c frame count all byte_is begun =
    more-begun frame count c.args.behind c.args.byte c.args.self.sum c.share.result c.args.self.sender c.then.result all byte_is (omega arith) begun c.share.ensures.remainder
    (c.then.ensures.given (begun_bits frame count) begun.given) c.then.ensures.few
