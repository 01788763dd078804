-- The first request of a list that does not belong to streams, and why. Times are bit times.
use Rattle.std.specs.Prelude.{◌≡◌, ℕ, ◌+◌, ◌<◌, ◌≤◌, ◌==◌, List, [], All, Any, filter, length, map, slice_get, take, Some}
use Rattle.async_window.specs.declared.request.Request.{Request}
use Rattle.async_window.specs.Waiting.{requests_of}
use Rattle.async_bound.specs.declared.stream.BurstStream.{BurstStream}
use Rattle.bounded_runs.specs.Requests.{AreOfStreams}
use Rattle.bounded_runs.specs.declared.of_streams.StrayWhy.{StrayWhy}
use Rattle.bounded_runs.specs.declared.of_streams.StrayWhy.TheVariants.{Unknown, Long, Early, Close}
use Rattle.bounded_runs.specs.declared.of_streams.StrayFault.{StrayFault}
use Rattle.bounded_runs.specs.declared.of_streams.StrayFault.TheVariants.{Stray, Memory}

-- the streams of an identifier, in their order
abbrev pub streams_of : List BurstStream → ℕ → List BurstStream
streams_of streams id = filter (λ stream. stream.id == id) streams

-- when the requests of an identifier arrive, in their order
abbrev pub arrivals_of : List Request → ℕ → List ℕ
arrivals_of requests id = map (λ request. request.at) (requests_of requests id)

-- some stream allows frames of so many bytes
abbrev pub Allows : List BurstStream → ℕ → Type 0
Allows streams count = Any (λ stream. count ≤ stream.bytes) streams

-- what arrives then, behind earlier arrivals, comes less than the least distance behind the one a burst before it
pub record IsCloseTo (arrived : List ℕ) (at : ℕ) (stream : BurstStream) : Type 0 where
  pub place : ℕ
  pub before : ℕ
  pub there : slice_get arrived place ≡ Some before
  pub a_burst_on : place + stream.burst ≡ length arrived
  pub near : at < before + stream.gap

-- for this one of the streams it does, and for none that stands before it
pub record IsFirstClose (own : List BurstStream) (arrived : List ℕ) (at : ℕ) (stream : BurstStream) : Type 0 where
  pub place : ℕ
  pub there : slice_get own place ≡ Some stream
  pub close : IsCloseTo arrived at stream
  pub first : All (λ other. IsCloseTo arrived at other → ⊥) (take place own)

-- why a request belongs to none of the streams of its identifier, behind the earlier arrivals of that identifier
abbrev pub Strays : List BurstStream → List ℕ → Request → StrayWhy → Type 0
Strays own arrived request Unknown = own ≡ []
Strays own arrived request (Long stream) =
    (slice_get own 0 ≡ Some stream) × All (λ other. other.bytes < length request.frame.bytes) own
Strays own arrived request (Early stream) =
    (slice_get own 0 ≡ Some stream) × Allows own (length request.frame.bytes) × Any (λ before. request.at < before) arrived
Strays own arrived request (Close stream) =
    Allows own (length request.frame.bytes) × All (λ before. before ≤ request.at) arrived × IsFirstClose own arrived request.at stream

-- and when it belongs to them
pub record FollowsStreams (own : List BurstStream) (arrived : List ℕ) (request : Request) : Type 0 where
  pub allowed : Allows own (length request.frame.bytes)
  pub behind : All (λ before. before ≤ request.at) arrived
  pub apart : All (λ stream. IsCloseTo arrived request.at stream → ⊥) own

-- the requests before this place belong to the streams, with the one at the place they do not, and why
pub record IsFirstStray (streams : List BurstStream) (requests : List Request) (place : ℕ)
    (why : StrayWhy) : Type 0 where
  pub request : Request
  pub there : slice_get requests place ≡ Some request
  pub before : AreOfStreams streams (take place requests)
  pub no_more : AreOfStreams streams (take (place + 1) requests) → ⊥
  pub strays : Strays (streams_of streams request.frame.identifier) (arrivals_of (take place requests) request.frame.identifier) request why

-- want of memory says nothing of the requests
abbrev pub IsStrayFault : List BurstStream → List Request → StrayFault → Type 0
IsStrayFault streams requests (Stray place why) = IsFirstStray streams requests place why
IsStrayFault streams requests Memory = Unit {0}
