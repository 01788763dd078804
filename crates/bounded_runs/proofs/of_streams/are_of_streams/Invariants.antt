use Rattle.std.proofs.Common.{◌≡◌, ℕ, ◌<◌, length, get_or, take}
use Rattle.bounded_runs.specs.declared.of_streams.Traffic.{Traffic}
use Rattle.bounded_runs.specs.Requests.{AreOfStreams}
use Rattle.bounded_runs.specs.Strays.{arrivals_of, streams_of}
use Rattle.bounded_runs.proofs.of_streams.are_of_streams.Given as goal

-- the requests so far belong to the streams, and their arrivals are noted
abbrev pub invariant-loop-place : goal.invariant-loop-place
invariant-loop-place l = record {
  count : length l.all.items ≡ 2048;
  streams : (id : ℕ) (d : Traffic) → id < 2048 → (get_or l.all.items id d).streams.items ≡ streams_of l.streams id;
  arrived : (id : ℕ) (d : Traffic) → id < 2048 → (get_or l.all.items id d).arrived.items ≡ arrivals_of (take l.place l.requests) id;
  belong : AreOfStreams l.streams (take l.place l.requests);
}
