-- The trigger frames of an elementary cycle: one where the table has 40 slots, two where it has 96. The layout of their
-- bytes is this project's own.
use Rattle.std.specs.Prelude.{ℕ, ◌+◌, ◌*◌, ◌/◌, ◌%◌, ◌^◌, List, [], ◌∷◌}
use Rattle.std.specs.Prelude.{length, slice_index, nat_eq, nat_le, ◌&&◌, ◌||◌, if◌then◌else◌, Option, Some, None}
use Rattle.std.specs.Int.{byte_at}
use Rattle.std.specs.List.{cons_option}
use Rattle.profile.specs.Limits.{first_slots, longest_window}
use Rattle.trigger_kind.specs.declared.Triggers.{Triggers}
use Rattle.trigger_kind.specs.declared.Triggers.TheVariants.{One, Two}
use Rattle.trigger_kind.specs.Kind.{triggers_of}
use Rattle.can_frame.specs.DataFrame.{DataFrame}
use Rattle.bit_sets.specs.Sets.{has_bit, most_slots, set_of}
use Rattle.trigger_codec.specs.declared.message.Trigger.{Trigger}
use Rattle.trigger_codec.specs.declared.message.Second.{Second}
use Rattle.trigger_codec.specs.declared.message.TriggerFrames.{TriggerFrames}

-- the slots of a set that the first frame flags, and those that the second one flags: those from 40 on
abbrev pub low_slots : ℕ → ℕ
low_slots mask = set_of first_slots (has_bit mask)

abbrev pub high_slots : ℕ → ℕ
high_slots mask = set_of most_slots (λ slot. nat_le first_slots slot && has_bit mask slot)

-- the data bytes of the first trigger frame of a cycle: the cycle modulo 256, the length of the synchronous window
-- big-endian, and the flags of the slots below 40, eight to a byte, the least slot in the least significant bit
abbrev pub trigger_bytes : ℕ → ℕ → ℕ → List ℕ
trigger_bytes cycle l mask =
    (cycle % 256) ∷ (l / 256) ∷ (l % 256)
    ∷ byte_at 0 mask ∷ byte_at 1 mask ∷ byte_at 2 mask ∷ byte_at 3 mask ∷ byte_at 4 mask ∷ []

-- the first trigger frame of a cycle is the frame of identifier 0 with these bytes
abbrev pub trigger_frame : ℕ → ℕ → ℕ → DataFrame
trigger_frame cycle l mask = record { identifier = 0; bytes = trigger_bytes cycle l mask }

-- the data bytes of the second trigger frame of a cycle: the cycle modulo 256, and the flags of the slots from 40 on,
-- eight to a byte, the least slot in the least significant bit
abbrev pub second_bytes : ℕ → ℕ → List ℕ
second_bytes cycle mask =
    (cycle % 256) ∷ byte_at 5 mask ∷ byte_at 6 mask ∷ byte_at 7 mask
    ∷ byte_at 8 mask ∷ byte_at 9 mask ∷ byte_at 10 mask ∷ byte_at 11 mask ∷ []

-- the second trigger frame of a cycle is the frame of identifier 1 with these bytes
abbrev pub second_frame : ℕ → ℕ → DataFrame
second_frame cycle mask = record { identifier = 1; bytes = second_bytes cycle mask }

-- the trigger frames of a cycle behind the first one
abbrev pub later_frames : Triggers → ℕ → ℕ → List DataFrame
later_frames One cycle mask = []
later_frames Two cycle mask = second_frame cycle mask ∷ []

-- the trigger frames of a cycle of a table with so many slots, in the order in which they are sent
abbrev pub triggers_with : ℕ → ℕ → ℕ → ℕ → List DataFrame
triggers_with slots cycle l mask = trigger_frame cycle l mask ∷ later_frames (triggers_of slots) cycle mask

-- the trigger frames that are still to be sent, in their order
abbrev pub frames_left : TriggerFrames → List DataFrame
frames_left frames = frames.next ∷ cons_option frames.second []

-- the slots that two trigger frames flag, where the first one and the second one flag these
abbrev pub flags_of_both : ℕ → ℕ → ℕ
flags_of_both first second = set_of most_slots (λ slot. has_bit first slot || has_bit second slot)

-- the length of the synchronous window that the data bytes of a first trigger frame say
abbrev pub width_told : List ℕ → ℕ
width_told bytes = slice_index bytes 1 * 256 + slice_index bytes 2

-- the slots that the data bytes of a first trigger frame flag
abbrev pub flags_in : List ℕ → ℕ
flags_in bytes =
    slice_index bytes 3
    + slice_index bytes 4 * 256
    + slice_index bytes 5 * 256 ^ 2
    + slice_index bytes 6 * 256 ^ 3
    + slice_index bytes 7 * 256 ^ 4

-- the slots that the data bytes of a second trigger frame flag
abbrev pub second_flags_in : List ℕ → ℕ
second_flags_in bytes =
    slice_index bytes 1 * 256 ^ 5
    + slice_index bytes 2 * 256 ^ 6
    + slice_index bytes 3 * 256 ^ 7
    + slice_index bytes 4 * 256 ^ 8
    + slice_index bytes 5 * 256 ^ 9
    + slice_index bytes 6 * 256 ^ 10
    + slice_index bytes 7 * 256 ^ 11

-- what a frame says as a first trigger frame, where it is one
abbrev pub trigger_of : DataFrame → Option Trigger
trigger_of frame =
    if nat_eq frame.identifier 0 && nat_eq (length frame.bytes) 8 && nat_le (width_told frame.bytes) longest_window
    then Some (record { low = slice_index frame.bytes 0; l = width_told frame.bytes; mask = flags_in frame.bytes })
    else None

-- what a frame says as a second trigger frame, where it is one
abbrev pub second_of : DataFrame → Option Second
second_of frame =
    if nat_eq frame.identifier 1 && nat_eq (length frame.bytes) 8
    then Some (record { low = slice_index frame.bytes 0; mask = second_flags_in frame.bytes })
    else None
