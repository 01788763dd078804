-- What the trigger frames of a cycle say.
use Rattle.std.proofs.Common.{◌≡◌, ℕ, ◌%◌, ◌^◌, ◌<◌, ◌≤◌, cond, leb, Some, None, ap, arith}
use Rattle.std.proofs.lemmas.Bool.{cond-true, le-leb}
use Rattle.trigger_codec.specs.declared.message.Trigger.{Trigger}
use Rattle.trigger_codec.specs.declared.message.Second.{Second}
use Rattle.trigger_codec.specs.Bytes.{flags_in, high_slots, low_slots, second_frame, second_of, trigger_bytes, trigger_frame, trigger_of, width_told}
use Rattle.trigger_codec.proofs.Flags.{flags_in-first, second_flags_in-second}

abbrev saying : ℕ → ℕ → ℕ → Trigger
saying low l mask = record { low = low; l = l; mask = mask }

said : (low window flags l mask : ℕ) → window ≡ l → flags ≡ mask → l ≤ 16383
    → cond (leb window 16383) (Some (saying low window flags)) None ≡ Some (saying low l mask)
said low window flags l mask same also small = grind (arith, cond-true, leb, le-leb)

-- the first one
pub trigger_of-first : (cycle l mask : ℕ) → l ≤ 16383
    → trigger_of (trigger_frame cycle l mask) ≡ Some (record { low = cycle % 256; l = l; mask = low_slots mask })
trigger_of-first cycle l mask small =
    said (cycle % 256) (width_told (trigger_bytes cycle l mask)) (flags_in (trigger_bytes cycle l mask)) l (low_slots mask) (omega arith)
    (flags_in-first cycle l mask) small

abbrev saying_second : ℕ → ℕ → Second
saying_second low mask = record { low = low; mask = mask }

-- the second one
pub second_of-second : (cycle mask : ℕ) → mask < 2 ^ 96
    → second_of (second_frame cycle mask) ≡ Some (record { low = cycle % 256; mask = high_slots mask })
second_of-second cycle mask below = ap (λ flags. Some (saying_second (cycle % 256) flags)) (second_flags_in-second cycle mask below)
