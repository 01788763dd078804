-- Data frames with an 11-bit identifier (CAN Specification 2.0 Part A, data frame).
use Rattle.std.specs.Prelude.{◌≡◌, ℕ, ◌-◌, ◌<◌, ◌≤◌, List, ◌++◌, length, take, replicate, All}
use Rattle.profile.specs.Limits.{greatest_identifier}

-- a data frame is its identifier and its data bytes, in the order of sending
pub record DataFrame : Type 0 where
  pub identifier : ℕ
  pub bytes : List ℕ

-- the frame of an identifier and its bytes
abbrev pub frame_with : ℕ → List ℕ → DataFrame
frame_with identifier bytes = record { identifier = identifier; bytes = bytes }

-- the seven most significant of the 11 identifier bits are not all recessive, and there are at most eight bytes
pub record IsFrame (frame : DataFrame) : Type 0 where
  pub identifier : frame.identifier ≤ greatest_identifier
  pub few : length frame.bytes ≤ 8
  pub bytes : All (λ byte. byte < 256) frame.bytes

-- eight places of storage hold that many data bytes, and zeros behind them
pub record IsStored (identifier count : ℕ) (places : List ℕ) : Type 0 where
  pub in_range : identifier ≤ greatest_identifier
  pub few : count ≤ 8
  pub room : length places ≡ 8
  pub small : All (λ byte. byte < 256) places
  pub zeros : places ≡ take count places ++ replicate (8 - count) 0
