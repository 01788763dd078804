-- How much of the bus is left for requests, however long the synchronous windows are. Times and lengths are bit times.
use Rattle.std.specs.Prelude.{ℕ, zero, suc, ◌+◌, ◌-◌, ◌*◌, ◌/◌, ◌%◌, ◌&&◌, nat_le, Bool, if◌then◌else◌}
use Rattle.cycle_layout.specs.Layout.{CycleLayout, trigger_part}

-- at this time a frame of at most `longest` bit times may start in its cycle, however long the synchronous window is
abbrev pub is_usable : CycleLayout → ℕ → ℕ → Bool
is_usable layout longest at =
    nat_le (trigger_part layout + layout.turnaround) (at % layout.cycle)
    && nat_le (at % layout.cycle + longest + layout.window) layout.cycle

-- how many of the times below `until` pass a test
abbrev pub count_below : (ℕ → Bool) → ℕ → ℕ
count_below test zero = 0
count_below test (suc n) = count_below test n + (if test n then 1 else 0)

-- how many usable times each cycle has
abbrev pub room_of_cycle : CycleLayout → ℕ → ℕ
room_of_cycle layout longest = layout.cycle + 1 - (trigger_part layout + layout.turnaround + layout.window + longest)

-- and how many there are at least among `span` times in a row, wherever they begin
abbrev pub room_in : CycleLayout → ℕ → ℕ → ℕ
room_in layout longest span =
    span / layout.cycle * room_of_cycle layout longest + (span % layout.cycle + room_of_cycle layout longest - layout.cycle)
