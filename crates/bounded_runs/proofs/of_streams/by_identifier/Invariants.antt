use Rattle.std.proofs.Common.{◌≡◌, ℕ, ◌<◌, [], length, get_or, take}
use Rattle.bounded_runs.specs.declared.of_streams.Traffic.{Traffic}
use Rattle.bounded_runs.specs.Strays.{streams_of}
use Rattle.bounded_runs.proofs.of_streams.by_identifier.Given as goal

-- the streams so far are at their identifiers
abbrev pub invariant-loop-stream : goal.invariant-loop-stream
invariant-loop-stream l = record {
  count : length l.all.items ≡ 2048;
  streams : (id : ℕ) (d : Traffic) → id < 2048 → (get_or l.all.items id d).streams.items ≡ streams_of (take l.stream-index l.streams) id;
  arrived : (id : ℕ) (d : Traffic) → id < 2048 → (get_or l.all.items id d).arrived.items ≡ [];
}
