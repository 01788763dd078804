use Rattle.std.proofs.Common.{◌<◌, All, take}
use Rattle.bounded_runs.proofs.of_streams.is_allowed.Given as goal

-- none of the streams so far allows so many
abbrev pub invariant-loop-stream : goal.invariant-loop-stream
invariant-loop-stream l = All (λ stream. stream.bytes < l.bytes) (take l.stream-index l.streams)
