-- Rows by what was counted: words for contracts inside the crate.
use Rattle.std.specs.Prelude.{ℕ, ◌-◌, Bool, if◌then◌else◌, List, [], ◌++◌, codes}
use Rattle.std.specs.Fmt.{decimal}
use Rattle.requirement_table.specs.declared.entries.Placed.{Placed}
use Rattle.plan_report.specs.Report.{field_of, requests_row}
use Rattle.plan_report.specs.declared.tally.Tally.{Tally}
use Rattle.plan_report.specs.declared.load.Load.{Load}

-- the row of an entry
abbrev pub tally_row : Placed → Tally → List ℕ
tally_row p tally =
    codes "entry," ++ decimal p.entry.slot ++ codes "," ++ decimal p.origin
    ++ codes "," ++ decimal tally.instances ++ codes ","
    ++ field_of tally.least ++ codes "," ++ field_of tally.greatest ++ codes "\n"

-- the row of an identifier, where it has an owner
abbrev pub owned_row : ℕ → Bool → ℕ → ℕ → List ℕ
owned_row id owned sent asked = if owned then requests_row id sent (asked - sent) else []

-- the row of the widths
abbrev pub widths_row : Load → List ℕ
widths_row load =
    codes "load," ++ field_of load.least ++ codes "," ++ field_of load.greatest
    ++ codes "," ++ decimal load.sum ++ codes "\n"
