-- Requests of streams. Times and lengths are bit times.
use Rattle.std.specs.Prelude.{◌≡◌, ℕ, ◌+◌, ◌≤◌, ◌&&◌, nat_le, nat_lt, List, All, AllPairs, Contains, count_by, length, slice_get, Some}
use Rattle.async_window.specs.declared.request.Request.{Request}
use Rattle.async_window.specs.Waiting.{requests_of}
use Rattle.async_bound.specs.declared.stream.BurstStream.{BurstStream}

-- the request has the identifier of a stream, and no more bytes than that allows
pub record IsOfStream (streams : List BurstStream) (request : Request) : Type 0 where
  pub stream : BurstStream
  pub among : Contains streams stream
  pub same : request.frame.identifier ≡ stream.id
  pub short : length request.frame.bytes ≤ stream.bytes

-- a request and the one that stands a burst behind it are at least the least distance apart
abbrev pub IsApart : BurstStream → List Request → Type 0
IsApart stream rs = (place : ℕ) (one other : Request) → slice_get rs place ≡ Some one → slice_get rs (place + stream.burst) ≡ Some other
    → one.at + stream.gap ≤ other.at

-- each request belongs to a stream, and the requests of each stream arrive in their order, and apart
pub record AreOfStreams (streams : List BurstStream) (requests : List Request) : Type 0 where
  pub known : All (IsOfStream streams) requests
  pub in_order : All (λ stream. AllPairs (λ one other. one.at ≤ other.at) (requests_of requests stream.id)) streams
  pub apart : All (λ stream. IsApart stream (requests_of requests stream.id)) streams

-- how many of these requests arrive from `low` to below `high`
abbrev pub arrive_within : ℕ → ℕ → List Request → ℕ
arrive_within low high requests = count_by (λ request. nat_le low request.at && nat_lt request.at high) requests
