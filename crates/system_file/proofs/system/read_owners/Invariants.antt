use Rattle.system_file.proofs.SystemOwners.{IsRead}
use Rattle.system_file.proofs.system.read_owners.Given as goal

abbrev pub invariant-loop-index : goal.invariant-loop-index
invariant-loop-index l = IsRead l.nodes l.elements l.index l.owners.items
