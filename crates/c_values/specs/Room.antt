-- What a call puts into the room that C lends it.
use Rattle.std.specs.Prelude.{◌≡◌, ℕ, ◌<◌, List, ◌++◌, drop, length}

-- these items stand at the front of the room, what is behind them is as before, and the count is theirs
pub record IsRoomFilled {T : Type 0} (items old new : List T) (count : ℕ) : Type 0 where
  pub room : new ≡ items ++ drop (length items) old
  pub count_is : count ≡ length items

-- there is no room for these items: it is as before, and the count says how many they are
pub record IsRoomShort {T : Type 0} (items old new : List T) (count : ℕ) : Type 0 where
  pub small : length old < length items
  pub same : new ≡ old
  pub count_is : count ≡ length items
