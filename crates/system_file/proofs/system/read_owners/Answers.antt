use Rattle.std.proofs.Common.{rules}
use Rattle.system_file.proofs.SystemOwners.{read_fault, read_next}
use Rattle.system_file.proofs.system.read_owners.Goals as goal

pub returns-in_err-owner-clause-fault : goal.returns-in_err-owner-clause-fault
returns-in_err-owner-clause-fault c = search (rules, read_fault)

pub loop-index-preserved : goal.loop-index-preserved
loop-index-preserved c =
    read_next c.args.nodes c.args.elements.now c.loop-index.index c.index-elements-index.result c.loop-index.owners.items c.push.new.self.items c.in_ok-owner.owner
    c.loop-index.invariant (search rules) (search rules) (search rules) (search rules) (search rules) (search rules) (search rules)
