-- The widths of opened cycles by the entries that are placed in the end: words for contracts inside the crate. Widths
-- are bit times.
use Rattle.std.specs.Prelude.{◌≡◌, ℕ, ◌+◌, ◌<◌, ◌≤◌, if◌then◌else◌, List, [], ◌∷◌, ◌++◌}
use Rattle.std.specs.List.{sum}
use Rattle.requirement_table.specs.declared.entries.Placed.{Placed}
use Rattle.bit_sets.specs.Sets.{has_bit}
use Rattle.requirement_table.specs.Table.{width_in}
use Rattle.master_core.specs.declared.event.Event.{Event}
use Rattle.master_core.specs.declared.event.Event.TheVariants.{Submit, Look, Open}
use Rattle.master_core.specs.History.{is_open}
use Rattle.plan_report.specs.Report.{greatest_of, least_of}
use Rattle.plan_report.specs.declared.load.Load.{Load}
use Rattle.plan_report.specs.declared.load.KnownWidth.{KnownWidth}

-- the width of the cycle that an event opens, where it opens cycle `next`
abbrev pub opened_width : List Placed → ℕ → Event → List ℕ
opened_width placed next (Submit caller change from verdict trail) = []
opened_width placed next (Look caller looked) = []
opened_width placed next (Open cycle mask) = width_in placed next (has_bit mask) ∷ []

-- those of the cycles that events open, from cycle `next` on
abbrev pub opened_widths : List Placed → ℕ → List Event → List ℕ
opened_widths placed next [] = []
opened_widths placed next (event ∷ later) =
    opened_width placed next event ++ opened_widths placed (next + (if is_open event then 1 else 0)) later

-- the least one, the greatest one and the sum of some widths
abbrev pub load_of : List ℕ → Load
load_of widths = record { least = least_of widths; greatest = greatest_of widths; sum = sum widths }

-- from the cycle `next` on, as long as it is known, it is the width of its slots
abbrev pub IsWidthFrom : List Placed → ℕ → KnownWidth → Type 0
IsWidthFrom placed next width = (c : ℕ) → next ≤ c → c < width.until → width_in placed c (has_bit width.mask) ≡ width.bits
