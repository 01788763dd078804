-- Rows that are looked at one after the other.
use Rattle.std.specs.Prelude.{ℕ, ◌+◌, ◌*◌, ◌^◌}
use Rattle.bit_sets.specs.declared.rows.Rest.{Rest}

-- the rows that are still to be looked at, as a set
abbrev pub rows_left : Rest → ℕ
rows_left rest = (rest.behind * 2 ^ 64 + rest.word) * 2 ^ rest.base + 0
