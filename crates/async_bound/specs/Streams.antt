-- Streams of requests. Times and lengths are bit times.
use Rattle.std.specs.Prelude.{ℕ, ◌+◌, ◌-◌, ◌*◌, ◌/◌, ◌^◌, ◌<◌, ◌≤◌, List, All}
use Rattle.profile.specs.Limits.{greatest_identifier, least_asynchronous}
use Rattle.async_bound.specs.declared.stream.BurstStream.{BurstStream}

-- a stream has an asynchronous identifier, frames of at most eight data bytes, a least distance, and room in it for one
-- request at least
pub record IsStream (stream : BurstStream) : Type 0 where
  pub asynchronous : least_asynchronous ≤ stream.id
  pub standard : stream.id ≤ greatest_identifier
  pub short : stream.bytes ≤ 8
  pub distinct : 0 < stream.gap
  pub near : stream.gap < 2 ^ 32
  pub some : 0 < stream.burst
  pub few : stream.burst ≤ 1024

abbrev pub AreStreams : List BurstStream → Type 0
AreStreams streams = All IsStream streams

-- no more requests of a stream arrive within so many bit times: a burst in each least distance that was begun
abbrev pub arrivals : BurstStream → ℕ → ℕ
arrivals stream span = (span + stream.gap - 1) / stream.gap * stream.burst
