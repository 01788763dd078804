-- The windows of an elementary cycle. Lengths and times are bit times; cycle c covers the times from c·E to below
-- (c + 1)·E, and its first trigger frame starts at c·E.
use Rattle.std.specs.Prelude.{ℕ, ◌+◌, ◌-◌, ◌*◌, ◌≤◌}
use Rattle.profile.specs.Limits.{longest_cycle, longest_turnaround, longest_window, shortest_cycle, shortest_window}
use Rattle.stuff_bound.specs.Stuffing.{worst}
use Rattle.trigger_kind.specs.Kind.{IsSlots, part_of, triggers_of}

-- the length E of each cycle, the turnaround R behind the trigger part, the largest synchronous window W, and the number
-- of slots S
pub record CycleLayout : Type 0 where
  pub cycle : ℕ
  pub turnaround : ℕ
  pub window : ℕ
  pub slots : ℕ

-- the number lies in the range, both ends included
pub record IsWithin (low high number : ℕ) : Type 0 where
  pub above : low ≤ number
  pub below : number ≤ high

abbrev pub IsCycleLength : ℕ → Type 0
IsCycleLength cycle = IsWithin shortest_cycle longest_cycle cycle

abbrev pub IsTurnaround : ℕ → Type 0
IsTurnaround turnaround = IsWithin 0 longest_turnaround turnaround

abbrev pub IsWindow : ℕ → Type 0
IsWindow window = IsWithin shortest_window longest_window window

-- G, the trigger part of each cycle
abbrev pub trigger_part : CycleLayout → ℕ
trigger_part layout = part_of (triggers_of layout.slots)

-- how long the trigger part, the turnaround and the largest synchronous window are together
abbrev pub needed : ℕ → ℕ → ℕ → ℕ
needed turnaround window slots = part_of (triggers_of slots) + turnaround + window

-- what is true of every layout: the four numbers are in range, and the cycle has room for what it needs
pub record IsLayout (layout : CycleLayout) : Type 0 where
  pub cycle_range : IsCycleLength layout.cycle
  pub turnaround_range : IsTurnaround layout.turnaround
  pub window_range : IsWindow layout.window
  pub slots_range : IsSlots layout.slots
  pub room : needed layout.turnaround layout.window layout.slots ≤ layout.cycle

-- the start of the asynchronous window of cycle c
abbrev pub async_open : CycleLayout → ℕ → ℕ
async_open layout c = c * layout.cycle + trigger_part layout + layout.turnaround

-- the start of the synchronous window of cycle c, where that window has the length l
abbrev pub sync_start : CycleLayout → ℕ → ℕ → ℕ
sync_start layout c l = (c + 1) * layout.cycle - l

-- *Allowed*: a frame of so many bytes may start at this time in cycle c, whose synchronous window has the length l:
-- the asynchronous window has opened, and the longest frame of so many bytes ends before the synchronous window
pub record IsAllowed (layout : CycleLayout) (bytes at c l : ℕ) : Type 0 where
  pub opened : async_open layout c ≤ at
  pub whole : at + worst bytes ≤ sync_start layout c l
