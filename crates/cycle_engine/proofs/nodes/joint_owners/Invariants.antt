use Rattle.std.proofs.Common.{◌≡◌, ◌++◌, drop}
use Rattle.cycle_engine.specs.Joint.{joint_owners}
use Rattle.cycle_engine.proofs.nodes.joint_owners.Given as goal

-- the owners so far, with those that are left, are all
abbrev pub invariant-loop-owner : goal.invariant-loop-owner
invariant-loop-owner l = l.joint.items ++ joint_owners (drop l.owner-index l.owners) ≡ joint_owners l.owners
