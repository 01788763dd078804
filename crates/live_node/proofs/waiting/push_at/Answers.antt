use Rattle.std.proofs.Common.{arith}
use Rattle.live_node.proofs.Boxes.{set-pushed}
use Rattle.live_node.proofs.waiting.push_at.Goals as goal

pub returns : goal.returns
returns c = grind (arith, set-pushed)
