use Rattle.std.proofs.Common.{arith}
use Rattle.live_node.proofs.Boxes.{room-full, room-left}
use Rattle.live_node.proofs.waiting.Mailbox.has_room.Goals as goal

pub returns-then-waiting-capacity : goal.returns-then-waiting-capacity
returns-then-waiting-capacity c = grind (arith, room-left)

pub returns-else-waiting-capacity : goal.returns-else-waiting-capacity
returns-else-waiting-capacity c = grind (arith, room-full)
