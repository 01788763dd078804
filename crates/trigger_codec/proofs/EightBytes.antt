-- Eight data bytes, read as those of a trigger frame.
use Rattle.std.proofs.Common.{◌≡◌, ℕ, ◌+◌, ◌*◌, ◌/◌, ◌%◌, ◌^◌, ◌<◌, List, [], ◌∷◌, All, length, slice_index, ap, ◌∙◌, arith}
use Rattle.can_frame.specs.DataFrame.{DataFrame, IsFrame}
use Rattle.trigger_codec.specs.Bytes.{trigger_bytes, trigger_frame, width_told, flags_in, second_bytes, second_frame, second_flags_in, low_slots, high_slots}
use Rattle.trigger_codec.specs.declared.message.Trigger.{Trigger}
use Rattle.trigger_codec.specs.declared.message.Second.{Second}
use Rattle.trigger_codec.proofs.Flags.{flags_in-first, second_flags_in-second}

-- eight bytes are those of the trigger that they say
trigger_bytes-read : (bytes : List ℕ) → length bytes ≡ 8 → All (λ byte. byte < 256) bytes → bytes ≡ trigger_bytes (slice_index bytes 0) (width_told bytes) (flags_in bytes)
trigger_bytes-read (a ∷ b ∷ c ∷ d ∷ e ∷ f ∷ g ∷ h ∷ []) eight small =
    let small_a : a < 256 = small 0 0 (omega arith) in
    let small_c : c < 256 = small 2 0 (omega arith) in
    let small_d : d < 256 = small 3 0 (omega arith) in
    let small_e : e < 256 = small 4 0 (omega arith) in
    let small_f : f < 256 = small 5 0 (omega arith) in
    let small_g : g < 256 = small 6 0 (omega arith) in
    let small_h : h < 256 = small 7 0 (omega arith) in
    grind arith
trigger_bytes-read _ eight small = absurd (omega arith)

-- a frame of identifier 0 with eight bytes is the first trigger frame of what it says
pub trigger_frame-read : (frame : DataFrame) → IsFrame frame → frame.identifier ≡ 0 → length frame.bytes ≡ 8 → frame ≡ trigger_frame (slice_index frame.bytes 0) (width_told frame.bytes) (flags_in frame.bytes)
trigger_frame-read frame legal trigger eight = grind (arith, trigger_bytes-read)

-- what the bytes of a frame say as those of a first trigger frame
abbrev told_first : DataFrame → Trigger
told_first frame = record { low = slice_index frame.bytes 0; l = width_told frame.bytes; mask = flags_in frame.bytes }

-- what a first trigger frame says
pub trigger_frame-told : (frame : DataFrame) (cycle l mask : ℕ) → frame ≡ trigger_frame cycle l mask → told_first frame ≡ record { low = cycle % 256; l = l; mask = low_slots mask }
trigger_frame-told frame cycle l mask is =
    let width : l / 256 * 256 + l % 256 ≡ l = omega arith in
    ap told_first is ∙ ap (λ m. record { low = cycle % 256; l = m; mask = flags_in (trigger_bytes cycle l mask) }) width
    ∙ ap (λ flags. record { low = cycle % 256; l = l; mask = flags }) (flags_in-first cycle l mask)

-- seven bytes behind the first are those of the second frame that they say
second_bytes-read : (bytes : List ℕ) → length bytes ≡ 8 → All (λ byte. byte < 256) bytes → bytes ≡ second_bytes (slice_index bytes 0) (second_flags_in bytes)
second_bytes-read (a ∷ b ∷ c ∷ d ∷ e ∷ f ∷ g ∷ h ∷ []) eight small =
    let small_a : a < 256 = small 0 0 (omega arith) in
    let small_b : b < 256 = small 1 0 (omega arith) in
    let small_c : c < 256 = small 2 0 (omega arith) in
    let small_d : d < 256 = small 3 0 (omega arith) in
    let small_e : e < 256 = small 4 0 (omega arith) in
    let small_f : f < 256 = small 5 0 (omega arith) in
    let small_g : g < 256 = small 6 0 (omega arith) in
    let small_h : h < 256 = small 7 0 (omega arith) in
    grind arith
second_bytes-read _ eight small = absurd (omega arith)

-- a frame of identifier 1 with eight bytes is the second trigger frame of what it says
pub second_frame-read : (frame : DataFrame) → IsFrame frame → frame.identifier ≡ 1 → length frame.bytes ≡ 8 → frame ≡ second_frame (slice_index frame.bytes 0) (second_flags_in frame.bytes)
second_frame-read frame legal second eight = grind (arith, second_bytes-read)

-- what the bytes of a frame say as those of a second trigger frame
abbrev told_second : DataFrame → Second
told_second frame = record { low = slice_index frame.bytes 0; mask = second_flags_in frame.bytes }

-- what a second trigger frame says
pub second_frame-told : (frame : DataFrame) (cycle mask : ℕ) → mask < 2 ^ 96 → frame ≡ second_frame cycle mask → told_second frame ≡ record { low = cycle % 256; mask = high_slots mask }
second_frame-told frame cycle mask below is =
    ap told_second is ∙ ap (λ flags. record { low = cycle % 256; mask = flags }) (second_flags_in-second cycle mask below)

-- the slots that a second trigger frame says are slots from 40 on
pub second_frame-high : (frame : DataFrame) (cycle mask : ℕ) → mask < 2 ^ 96 → frame ≡ second_frame cycle mask → mask ≡ second_flags_in frame.bytes → mask ≡ high_slots mask
second_frame-high frame cycle mask below is told = told ∙ ap (λ f. second_flags_in f.bytes) is ∙ second_flags_in-second cycle mask below
