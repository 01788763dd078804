-- Frames whose numbers differ in their last byte at most have the same bytes before it.
use Rattle.std.proofs.Common.{rules, arith}
use Rattle.std.proofs.lemmas.Bool.{eqb-true}
use Rattle.can_frame.proofs.LowBytes.{front-bytes}
use Rattle.can_frame.proofs.known_front.KnownFront.is_of.Goals as goal

pub returns-then-id-clause-same : goal.returns-then-id-clause-same
returns-then-id-clause-same c = grind (arith, rules, eqb-true, front-bytes)
