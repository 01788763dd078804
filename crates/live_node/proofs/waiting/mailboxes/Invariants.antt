use Rattle.std.proofs.Common.{◌≡◌, map, take}
use Rattle.node_model.specs.Node.{identifiers_of}
use Rattle.live_node.specs.Live.{nothing_waits}
use Rattle.live_node.proofs.waiting.mailboxes.Given as goal

abbrev pub invariant-loop-owner : goal.invariant-loop-owner
invariant-loop-owner l = l.boxes.items ≡ map (nothing_waits l.room) (identifiers_of l.number (take l.owner-index l.owners))
