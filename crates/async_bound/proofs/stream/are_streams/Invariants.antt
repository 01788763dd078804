use Rattle.std.proofs.Common.{All, take}
use Rattle.async_bound.specs.Streams.{IsStream}
use Rattle.async_bound.proofs.stream.are_streams.Given as goal

abbrev pub invariant-loop-stream : goal.invariant-loop-stream
invariant-loop-stream l = All IsStream (take l.stream-index l.streams)
