use Rattle.std.proofs.Common.{◌≡◌, ℕ, take}
use Rattle.bit_sets.specs.Sets.{has_bit}
use Rattle.requirement_table.specs.Table.{releases_in}
use Rattle.requirement_table.proofs.lists.released_in.Given as goal

abbrev pub invariant-loop-p : goal.invariant-loop-p
invariant-loop-p l = (slot : ℕ) → has_bit l.slots slot ≡ releases_in (take l.p-index l.placed) l.cycle slot
