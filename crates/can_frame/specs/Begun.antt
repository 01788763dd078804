-- What is known of a frame once the bits before its data and its first data bytes were gone through.
use Rattle.std.specs.Prelude.{◌≡◌, ℕ, ◌+◌, ◌-◌, ◌*◌, ◌^◌, ◌<◌, ◌≤◌, Bool, List, ◌++◌, length, take}
use Rattle.std.specs.List.{flat_map}
use Rattle.std.specs.Int.{bytes_high_first}
use Rattle.stuff_bound.specs.Fields.{bits}
use Rattle.stuff_bound.specs.Sending.{Counted, WasGiven}
use Rattle.can_frame.specs.DataFrame.{DataFrame}
use Rattle.can_frame.specs.Number.{number}
use Rattle.can_frame.specs.Crc.{IsRemainder}
use Rattle.can_frame.specs.Wire.{header}

-- the bits before the data of a frame, and those of its first so many data bytes
unfoldable pub begun_bits : DataFrame → ℕ → List Bool
begun_bits frame count = header frame.identifier (length frame.bytes) ++ flat_map (bits 8) (take count frame.bytes)

-- a sum is what division leaves of them, with the other data bytes and the CRC sequence behind them; and a sender was
-- given them
pub record HasBegun (frame : DataFrame) (count sum : ℕ) (sender : Counted) : Type 0 where
  pub summed : IsRemainder (number (begun_bits frame count) * 2 ^ (15 + 8 * (length frame.bytes - count))) sum
  pub given : WasGiven sender (begun_bits frame count)
  pub few : sender.stuff_bits ≤ 6 + 2 * count

-- two frames have the same bits before their last data byte, and both have one
pub record HaveOneFront (one other : DataFrame) : Type 0 where
  pub some : 0 < length one.bytes
  pub identifier : one.identifier ≡ other.identifier
  pub bytes : length one.bytes ≡ length other.bytes
  pub front : take (length one.bytes - 1) one.bytes ≡ take (length one.bytes - 1) other.bytes

-- a frame with a data byte, the number of its data bytes before the last one, and what is known of the bits before that one
pub record FrontView : Type 0 where
  pub frame : DataFrame
  pub front : ℕ
  pub sum : ℕ
  pub sender : Counted

-- what is kept is that of the frame
pub record IsKnownFront (known : FrontView) : Type 0 where
  pub some : 0 < length known.frame.bytes
  pub bytes : bytes_high_first (length known.frame.bytes - 1) known.front
      ≡ take (length known.frame.bytes - 1) known.frame.bytes
  pub begun : HasBegun known.frame (length known.frame.bytes - 1) known.sum known.sender
