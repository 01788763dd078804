-- Bounds of how long requests of streams wait for their start. Times and lengths are bit times.
use Rattle.std.specs.Prelude.{◌≡◌, ℕ, ◌+◌, ◌-◌, ◌*◌, ◌<◌, ◌≤◌, nat_le, nat_lt, max, fold, filter, map, List, All, Any, Contains, sum_by, if◌then◌else◌}
use Rattle.profile.specs.Limits.{greatest_identifier}
use Rattle.stuff_bound.specs.Stuffing.{worst}
use Rattle.cycle_layout.specs.Layout.{CycleLayout}
use Rattle.async_bound.specs.declared.stream.BurstStream.{BurstStream}
use Rattle.async_bound.specs.Streams.{arrivals}
use Rattle.async_bound.specs.Room.{count_below, is_usable, room_in}

-- how many bit times the requests of identifiers below this one need that arrive within so many bit times
abbrev pub demand : List BurstStream → ℕ → ℕ → ℕ
demand streams id span = sum_by (λ stream. if nat_lt stream.id id then arrivals stream span * worst stream.bytes else 0) streams

-- what the requests of a burst before one of it may need
abbrev pub own_before : BurstStream → ℕ → ℕ
own_before stream longest = (stream.burst - 1) * longest

-- the longest frames of the streams up to an identifier, one of each of them
abbrev pub lengths_up_to : List BurstStream → ℕ → List ℕ
lengths_up_to streams id = map (λ stream. worst stream.bytes) (filter (λ stream. nat_le stream.id id) streams)

-- and the longest one of these; 0 where there is none
abbrev pub longest_up_to : List BurstStream → ℕ → ℕ
longest_up_to streams id = fold max 0 (lengths_up_to streams id)

-- no frame of a stream up to an identifier is longer, and if it is more than 0, then such a stream has one as long
pub record IsLongestUpTo (streams : List BurstStream) (id longest : ℕ) : Type 0 where
  pub most : All (λ stream. stream.id ≤ id → worst stream.bytes ≤ longest) streams
  pub reached : 0 < longest → Any (λ stream. (stream.id ≤ id) × (worst stream.bytes ≡ longest)) streams

-- what a frame under way of any stream still needs at most
abbrev pub blocking : List BurstStream → ℕ
blocking streams = longest_up_to streams greatest_identifier - 1

-- of `span` bit times, those behind the frame under way have more room than the requests of lower identifiers that
-- arrive meanwhile need, and those of the own burst before this one
abbrev pub Fits : CycleLayout → List BurstStream → BurstStream → ℕ → Type 0
Fits layout streams stream span =
    demand streams stream.id span + own_before stream (longest_up_to streams stream.id)
    < room_in layout (longest_up_to streams stream.id) (span - blocking streams)

-- the least number of bit times that fits, and it is at most the stream's least distance
pub record IsLeastFitting (layout : CycleLayout) (streams : List BurstStream) (stream : BurstStream)
    (span : ℕ) : Type 0 where
  pub within : span ≤ stream.gap
  pub fits : Fits layout streams stream span
  pub least : (less : ℕ) → Fits layout streams stream less → span ≤ less

-- what a bound of a stream has to be for the laws on runs, said by counting times: wherever `span` bit times begin,
-- those behind `blocked` have more usable times than a request of the stream has to leave to others. `longest` is no
-- less than the longest frame up to its identifier, and `blocked` no less than what a frame under way still needs
pub record IsBound (layout : CycleLayout) (streams : List BurstStream) (stream : BurstStream)
    (longest blocked span : ℕ) : Type 0 where
  pub among : Contains streams stream
  pub short : All (λ other. other.id ≤ stream.id → worst other.bytes ≤ longest) streams
  pub blocking : All (λ other. worst other.bytes ≤ blocked + 1) streams
  pub within : span ≤ stream.gap
  pub room : (low : ℕ) → count_below (is_usable layout longest) (low + blocked) + (demand streams stream.id span + own_before stream longest)
      < count_below (is_usable layout longest) (low + span)
