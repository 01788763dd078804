-- Why an identifier and a list of bytes are no frame.
use Rattle.std.specs.Prelude.{◌≡◌, ℕ, ◌<◌, ◌≤◌, List, length}
use Rattle.profile.specs.Limits.{greatest_identifier}
use Rattle.can_frame.specs.declared.data_frame.FrameFault.{FrameFault}
use Rattle.can_frame.specs.declared.data_frame.FrameFault.TheVariants.{IdRange, TooLong}

-- the identifier is judged first, and each fault carries the number that is too great
abbrev pub Refuses : ℕ → List ℕ → FrameFault → Type 0
Refuses identifier bytes (IdRange id) = (id ≡ identifier) × (greatest_identifier < identifier)
Refuses identifier bytes (TooLong len) =
    (len ≡ length bytes) × (identifier ≤ greatest_identifier) × (8 < length bytes)
