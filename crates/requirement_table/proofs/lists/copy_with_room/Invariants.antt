use Rattle.std.proofs.Common.{◌≡◌, ◌++◌, length}
use Rattle.requirement_table.proofs.lists.copy_with_room.Given as goal

abbrev pub invariant-loop-rest : goal.invariant-loop-rest
invariant-loop-rest l = l.list.items ++ l.rest ≡ l.placed

abbrev pub decreases-loop-rest : goal.decreases-loop-rest
decreases-loop-rest l = length l.rest
