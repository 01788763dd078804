-- From which cycle on placed entries do the same again after some cycles. Cycles are elementary cycles.
use Rattle.std.specs.Prelude.{◌≡◌, ℕ, ◌+◌, ◌%◌, ◌≤◌, None}
use Rattle.std.specs.Option.{option_map_or}
use Rattle.requirement_table.specs.declared.entries.Placed.{Placed}
use Rattle.requirement_table.specs.Table.{free_from}

-- the cycle by which a placed entry has settled: a live one with its first release, and one with an end when its slot
-- is free again
abbrev pub settled_at : Placed → ℕ
settled_at p = option_map_or (λ free. free) (free_from p) (p.origin + p.entry.phase)

-- the entry has settled by cycle `bound`, and where it is live its period divides `length`: so from `bound` on it does
-- the same again after `length` cycles
pub record RepeatsFrom (bound length : ℕ) (p : Placed) : Type 0 where
  pub settled : settled_at p ≤ bound
  pub divided : p.end ≡ None → length % p.entry.period ≡ 0
