use Rattle.std.proofs.Common.{◌≡◌, take}
use Rattle.node_model.specs.Node.{identifiers_of}
use Rattle.node_model.proofs.entries.identifiers_of.Given as goal

abbrev pub invariant-loop-owner : goal.invariant-loop-owner
invariant-loop-owner l = l.ids.items ≡ identifiers_of l.number (take l.owner-index l.owners)
