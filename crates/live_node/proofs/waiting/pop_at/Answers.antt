use Rattle.std.proofs.Common.{arith}
use Rattle.live_node.proofs.Boxes.{set-popped}
use Rattle.live_node.proofs.waiting.pop_at.Goals as goal

pub returns : goal.returns
returns c = grind (arith, set-popped)
