-- The table that steps ask for, where no admission is asked: each change counts that breaks no rule and whose start has
-- not passed.
use Rattle.std.specs.Prelude.{ℕ, ◌+◌, Bool, ◌&&◌, nat_le, is_none, List, [], fold, if◌then◌else◌}
use Rattle.std.specs.List.{flat_map}
use Rattle.requirement_table.specs.declared.entries.Placed.{Placed}
use Rattle.change_protocol.specs.Applied.{applied}
use Rattle.change_protocol.specs.Malformed.{Bounds, first_fault}
use Rattle.change_protocol.specs.declared.operations.Change.{Change}
use Rattle.change_protocol.specs.declared.operations.Act.TheVariants as act
use Rattle.steps_file.specs.declared.steps.Step.{Step}
use Rattle.master_core.specs.Calls.{Call, asked, opens}
use Rattle.replay_run.specs.Run.{calls_of}

-- the placed entries after some calls, and the number of cycles that these open
pub record AskedTable : Type 0 where
  pub placed : List Placed
  pub next : ℕ

-- whether a change of this list counts, on a bus of these bounds after so many cycles: it breaks no rule, and its start
-- is not below their number
abbrev pub counts : Bounds → List Placed → ℕ → Change → Bool
counts bounds placed next change = nat_le next change.start && is_none (first_fault placed bounds change)

-- the list after a change
abbrev pub after_change : Bounds → List Placed → ℕ → Change → List Placed
after_change bounds placed next change = if counts bounds placed next change then applied placed change else placed

-- the table after one more call
abbrev pub after_call : Bounds → AskedTable → Call → AskedTable
after_call bounds table opens = record { placed = table.placed; next = table.next + 1 }
after_call bounds table (asked caller act.Look) = table
after_call bounds table (asked caller (act.Ask change)) =
    record { placed = after_change bounds table.placed table.next change; next = table.next }

-- the table after the calls of all steps
abbrev pub table_of : Bounds → List Step → AskedTable
table_of bounds steps = fold (after_call bounds) (record { placed = []; next = 0 }) (flat_map calls_of steps)
