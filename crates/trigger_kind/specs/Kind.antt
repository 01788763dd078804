-- The kind of trigger of a bus: how many trigger frames open each cycle, and what follows from it alone.
use Rattle.std.specs.Prelude.{◌≡◌, ℕ, ◌*◌, ◌⊎◌, nat_eq, if◌then◌else◌}
use Rattle.profile.specs.Limits.{first_slots, most_slots}
use Rattle.stuff_bound.specs.Stuffing.{worst}
use Rattle.trigger_kind.specs.declared.Triggers.{Triggers}
use Rattle.trigger_kind.specs.declared.Triggers.TheVariants.{One, Two}

-- a bus has as many slots as one trigger frame flags, or as two flag
abbrev pub IsSlots : ℕ → Type 0
IsSlots slots = (slots ≡ first_slots) ⊎ (slots ≡ most_slots)

-- the trigger frames of a bus with so many slots
abbrev pub triggers_of : ℕ → Triggers
triggers_of slots = if nat_eq slots first_slots then One else Two

-- how many slots they flag
abbrev pub slots_of : Triggers → ℕ
slots_of One = first_slots
slots_of Two = most_slots

-- how many there are
abbrev pub count_of : Triggers → ℕ
count_of One = 1
count_of Two = 2

-- how long they are together at most, of 8 data bytes each: the trigger part of a cycle
abbrev pub part_of : Triggers → ℕ
part_of triggers = count_of triggers * worst 8

-- the identifier of the last one, which is the frame that opens the cycle
abbrev pub opening_of : Triggers → ℕ
opening_of One = 0
opening_of Two = 1

-- the same of a bus with so many slots
abbrev pub opening_identifier : ℕ → ℕ
opening_identifier slots = opening_of (triggers_of slots)

-- the greatest identifier of a trigger frame, of whatever kind: those of slots and of requests are above it
abbrev pub greatest_trigger : ℕ
greatest_trigger = 1
