-- What is released in a cycle, in bit times.
use Rattle.std.specs.Prelude.{ℕ, if◌then◌else◌, is_some, List, sum_by}
use Rattle.requirement_table.specs.declared.entries.Placed.{Placed}
use Rattle.requirement_table.specs.Instance.{released_by, worst}

-- what an entry costs in a cycle in which it releases an instance, and 0 in the others
abbrev pub cost_in : Placed → ℕ → ℕ
cost_in p c = if is_some (released_by p c) then worst p.entry.length else 0

-- what the instances that are released in a cycle cost together
abbrev pub demand_in : List Placed → ℕ → ℕ
demand_in placed c = sum_by (λ p. cost_in p c) placed
