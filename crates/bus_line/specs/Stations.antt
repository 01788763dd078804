-- What stations on a bus offer, how that changes as frames are sent, and what a run of the bus over them is.
use Rattle.std.specs.Prelude.{◌≡◌, ◌≢◌, ℕ, ◌<◌, List, [], ◌++◌, Option, Some, None, Contains, fold, min}
use Rattle.can_frame.specs.DataFrame.{DataFrame}
use Rattle.can_frame.specs.Wire.{wire_length}
use Rattle.can_frame.specs.declared.data_frame.TimedFrame.{TimedFrame}
use Rattle.bus_line.specs.Trace.{Offers, Follows, free_after}

-- stations with these states: the distinct identifiers that they offer in a state at a time, the frame that stands
-- behind an identifier then, and the state once a frame was sent
pub record Line (State : Type 0) : Type 0 where
  pub offered : State → ℕ → List ℕ
  pub framed : State → ℕ → ℕ → DataFrame
  pub next : State → TimedFrame → State

-- the frame is offered in this state at this time
pub record IsOffered {State : Type 0} (line : Line State) (state : State) (at : ℕ) (frame : DataFrame) : Type 0 where
  pub contends : Contains (line.offered state at) frame.identifier
  pub framed : frame ≡ line.framed state at frame.identifier

-- the state once these frames were sent, in their order
abbrev pub told : {State : Type 0} → Line State → State → List TimedFrame → State
told line state frames = fold line.next state frames

-- what stations that are in this state now offer after they were told of more frames
abbrev pub offers_of : {State : Type 0} → Line State → State → Offers
offers_of line state past at frame = IsOffered line (told line state past) at frame

-- the answer is the least time after `at` at which something is offered, of what is offered at each time; there is none
-- where nothing is offered at any time after `at`
abbrev pub IsWake : (ℕ → List ℕ) → ℕ → Option ℕ → Type 0
IsWake offered at None = (later : ℕ) → at < later → offered later ≡ []
IsWake offered at (Some next) =
    (at < next) × (offered next ≢ []) × ((later : ℕ) → at < later → later < next → offered later ≡ [])

-- the sooner of two times, where there is one
abbrev pub sooner : Option ℕ → Option ℕ → Option ℕ
sooner None other = other
sooner (Some one) None = Some one
sooner (Some one) (Some other) = Some (min one other)

-- the frame is one that stations in this state offer at its start, and has its wire length
pub record IsSending {State : Type 0} (line : Line State) (state : State) (sent : TimedFrame) : Type 0 where
  pub offered : IsOffered line state sent.start sent.frame
  pub whole : sent.len ≡ wire_length sent.frame

-- a run of the bus over stations, from `from` to below `until`: the frames that arbitration decides were put behind
-- `old`, the stations were told of these and of nothing else, and `free` is the first free time behind them
pub record Ran {State : Type 0} (line : Line State) (before after : State)
    (from until : ℕ) (old new : List TimedFrame) (free : ℕ) : Type 0 where
  pub frames : List TimedFrame
  pub appended : new ≡ old ++ frames
  pub follows : Follows (offers_of line before) [] from until frames
  pub told_of : after ≡ told line before frames
  pub free_is : free ≡ free_after from frames
