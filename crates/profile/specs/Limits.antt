-- The numbers that contracts of all crates speak of: limits of identifiers, of lengths, of counts and of times.
use Rattle.std.specs.Prelude.{ℕ, ◌^◌}

-- identifiers

-- the greatest identifier of a frame: the seven most significant of its 11 bits are not all recessive (CAN 2.0 Part A,
-- arbitration field)
abbrev pub greatest_identifier : ℕ
greatest_identifier = 0x7EF

-- the identifier of slot 0; that of slot s is s more
abbrev pub first_identifier : ℕ
first_identifier = 0x100

-- the least identifier of an asynchronous frame; those below it are for trigger frames and slots
abbrev pub least_asynchronous : ℕ
least_asynchronous = 0x200

-- lengths, in bit times

-- the length of a frame without data bytes and stuff bits, three bits of intermission included: no frame is shorter
-- (CAN 2.0 Part A, data frame and interframe space)
abbrev pub shortest_frame : ℕ
shortest_frame = 47

-- the least length of an elementary cycle
abbrev pub shortest_cycle : ℕ
shortest_cycle = 400

-- the greatest length of an elementary cycle
abbrev pub longest_cycle : ℕ
longest_cycle = 100000

-- the greatest turnaround, which stands behind the trigger part of a cycle
abbrev pub longest_turnaround : ℕ
longest_turnaround = 1000

-- the least length that the largest synchronous window may have: the longest frame without data bytes fits
abbrev pub shortest_window : ℕ
shortest_window = 55

-- the greatest length that the largest synchronous window may have: 14 bits of the two bytes in which a trigger tells
-- how long a synchronous window is
abbrev pub longest_window : ℕ
longest_window = 16383

-- numbers of slots

-- the number of slots that one trigger frame flags: those below it, five bytes of flags
abbrev pub first_slots : ℕ
first_slots = 40

-- the greatest number of slots of a bus, and the room of a set of slots; slots are numbered from 0, and two trigger frames
-- flag so many
abbrev pub most_slots : ℕ
most_slots = 96

-- counts

-- the greatest number of nodes of a bus; nodes are numbered from 0
abbrev pub most_nodes : ℕ
most_nodes = 30

-- the greatest horizon: within so many planned cycles the repeat of a plan has to be found
abbrev pub greatest_horizon : ℕ
greatest_horizon = 100000

-- the greatest number of cycles of a run
abbrev pub most_cycles : ℕ
most_cycles = 20000

-- ends: each number of its kind is below its end, so that no sum of the code leaves 64 bits

-- the end of cycle numbers, in elementary cycles: of origins, ends of entries and all cycles that are planned
abbrev pub cycles_end : ℕ
cycles_end = 2 ^ 42

-- the end of the cycles that a master opens: a whole horizon after each of them is below the end of cycle numbers
abbrev pub openings_end : ℕ
openings_end = 2 ^ 41

-- the end of the cycles in which a change may begin to be felt: a phase and a period after each of them are below the
-- end of cycle numbers
abbrev pub starts_end : ℕ
starts_end = 2 ^ 40

-- the end of times, in bit times: 2 ^ 42 cycles of the greatest length are over before it
abbrev pub times_end : ℕ
times_end = 2 ^ 60

-- the end of the times at which requests arrive, in bit times, which is far above the end of the longest run
abbrev pub arrivals_end : ℕ
arrivals_end = 2 ^ 40
