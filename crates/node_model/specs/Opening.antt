-- The times of an opened cycle, in bit times.
use Rattle.std.specs.Prelude.{ℕ, ◌+◌, ◌-◌, ◌*◌}
use Rattle.cycle_layout.specs.Layout.{CycleLayout}
use Rattle.requirement_table.specs.Opening.{Opening, width_of}

-- the times at which the cycle, the next cycle and the cycle's synchronous window start
abbrev pub start_of : CycleLayout → Opening → ℕ
start_of layout opening = opening.cycle * layout.cycle

abbrev pub end_of_cycle : CycleLayout → Opening → ℕ
end_of_cycle layout opening = (opening.cycle + 1) * layout.cycle

abbrev pub window_start : CycleLayout → Opening → ℕ
window_start layout opening = end_of_cycle layout opening - width_of opening
