-- Times at which stations offer nothing.
use Rattle.std.proofs.Common.{◌≡◌, ℕ, [], Some, None, arith}
use Rattle.bus_line.specs.Trace.{NothingOffered}
use Rattle.bus_line.specs.Stations.{Line, IsWake, offers_of}

module _ {State : Type 0} (line : Line State) (state : State) (free at : ℕ) (before : NothingOffered (offers_of line state) [] free at) (none : line.offered state at ≡ []) where
  pub quiet_until_wake : (next : ℕ) → IsWake (line.offered state) at (Some next) → NothingOffered (offers_of line state) [] free next
  quiet_until_wake next wake = grind arith

  pub quiet_for_ever : (until : ℕ) → IsWake (line.offered state) at None → NothingOffered (offers_of line state) [] free until
  quiet_for_ever until wake = grind arith
