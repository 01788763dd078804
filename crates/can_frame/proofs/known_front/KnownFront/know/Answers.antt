-- What was known serves, or that of the frame does.
use Rattle.std.proofs.Common.{◌-◌, length, subst}
use Rattle.can_frame.specs.Begun.{HasBegun}
use Rattle.can_frame.proofs.Begun.{same-front}
use Rattle.can_frame.proofs.known_front.KnownFront.know.Goals as goal

pub returns-then-not-is_of : goal.returns-then-not-is_of
returns-then-not-is_of c = record {
  known = subst (λ frame. HasBegun frame (length frame.bytes - 1) c.of.result.sum c.of.result.sender) c.of.ensures.frame c.of.ensures.known.begun;
}

pub returns-else-not-is_of : goal.returns-else-not-is_of
returns-else-not-is_of c =
    let known = c.args.self.now in
    record {
      known = same-front known.frame c.args.frame.now known.sum known.sender (c.is_of.ensures.same c.if-not-is_of.false) c.is_of.ensures.known.begun;
    }
