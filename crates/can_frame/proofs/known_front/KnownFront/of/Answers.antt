use Rattle.std.proofs.Common.{◌≡◌, ◌-◌, length, subst, ◌∙◌}
use Rattle.can_frame.specs.Begun.{HasBegun}
use Rattle.can_frame.proofs.LowBytes.{front-bytes}
use Rattle.can_frame.proofs.known_front.KnownFront.of.Goals as goal

pub invariant_of-result : goal.invariant_of-result
invariant_of-result c =
    let frame = c.args.frame.now in
    let count : c.from.result ≡ length frame.bytes = c.from.ensures ∙ c.dlc.ensures.value in
    record {
      some = c.requires.some;
      bytes = front-bytes (length frame.bytes) c.number.result frame.bytes c.requires.some c.number.ensures.bytes;
      begun = subst (λ n. HasBegun frame (n - 1) c.begin_anew-sum.result.sum c.begin_anew-sum.result.sender) count c.begin_anew-sum.ensures.begun;
    }

pub returns-clause-known : goal.returns-clause-known
returns-clause-known c = invariant_of-result c
