use Rattle.std.proofs.Common.{All, take}
use Rattle.bounded_runs.specs.Strays.{IsCloseTo}
use Rattle.bounded_runs.proofs.of_streams.first_close.Given as goal

-- for none of the streams so far is it too close
abbrev pub invariant-loop-stream : goal.invariant-loop-stream
invariant-loop-stream l = All (λ stream. IsCloseTo l.arrived l.at stream → ⊥) (take l.stream-index l.streams)
