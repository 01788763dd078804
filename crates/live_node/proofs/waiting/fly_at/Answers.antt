use Rattle.std.proofs.Common.{arith}
use Rattle.live_node.proofs.Boxes.{set-flying}
use Rattle.live_node.proofs.waiting.fly_at.Goals as goal

pub returns : goal.returns
returns c = grind (arith, set-flying)
