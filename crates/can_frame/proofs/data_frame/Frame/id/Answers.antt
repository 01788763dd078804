-- The bytes of a frame are those in its places, which are bytes.
use Rattle.std.proofs.Common.{◌<◌, arith}
use Rattle.std.proofs.lemmas.List.{length-take}
use Rattle.std.proofs.lemmas.List.Elements.{All-take}
use Rattle.can_frame.proofs.data_frame.Frame.id.Goals as goal

pub returns-clause-legal : goal.returns-clause-legal
returns-clause-legal c = rw (← c.self.view_is) (record {
  identifier = c.self.invariant.in_range;
  few = omega (arith, length-take c.self.inside.len c.self.inside.bytes);
  bytes = All-take (λ byte. byte < 256) _ _ c.self.invariant.small;
})
