-- An opened cycle, and the frames of its flagged slots. Lengths are bit times.
use Rattle.std.specs.Prelude.{ℕ, List}
use Rattle.requirement_table.specs.declared.entries.Placed.{Placed}
use Rattle.bit_sets.specs.Sets.{has_bit}
use Rattle.requirement_table.specs.Table.{width_in}

-- an opened cycle: its number, the slots that its trigger flags, and the entries that were placed when it was opened
pub record Opening : Type 0 where
  pub cycle : ℕ
  pub mask : ℕ
  pub placed : List Placed

-- the length of the cycle's synchronous window: the worst lengths of its flagged slots together
abbrev pub width_of : Opening → ℕ
width_of opening = width_in opening.placed opening.cycle (has_bit opening.mask)
