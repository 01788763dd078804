-- Why a frame is no first trigger frame, or none behind it.
use Rattle.std.specs.Prelude.{◌≡◌, ◌≢◌, ℕ, ◌<◌, length}
use Rattle.profile.specs.Limits.{longest_window}
use Rattle.can_frame.specs.DataFrame.{DataFrame}
use Rattle.trigger_codec.specs.declared.trigger_fault.TriggerFault.{TriggerFault}
use Rattle.trigger_codec.specs.declared.trigger_fault.TriggerFault.TheVariants.{WrongId, WrongLength, Window}
use Rattle.trigger_codec.specs.Bytes.{width_told}

-- the identifier is judged first, then the number of bytes, then the window; each fault carries the
-- number that is wrong
abbrev pub RefusesFirst : DataFrame → TriggerFault → Type 0
RefusesFirst frame (WrongId id) = (id ≡ frame.identifier) × (frame.identifier ≢ 0)
RefusesFirst frame (WrongLength dlc) =
    (dlc ≡ length frame.bytes) × (frame.identifier ≡ 0) × (length frame.bytes ≢ 8)
RefusesFirst frame (Window l) =
    (l ≡ width_told frame.bytes) × (frame.identifier ≡ 0) × (length frame.bytes ≡ 8)
    × (longest_window < width_told frame.bytes)

-- the same for a frame behind the first one, which has this identifier and says no window
abbrev pub RefusesLater : ℕ → DataFrame → TriggerFault → Type 0
RefusesLater own frame (WrongId id) = (id ≡ frame.identifier) × (frame.identifier ≢ own)
RefusesLater own frame (WrongLength dlc) =
    (dlc ≡ length frame.bytes) × (frame.identifier ≡ own) × (length frame.bytes ≢ 8)
RefusesLater own frame (Window l) = ⊥
