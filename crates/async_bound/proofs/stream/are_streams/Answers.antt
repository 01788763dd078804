use Rattle.std.proofs.Common.{All, arith, subst, take_all}
use Rattle.std.proofs.lemmas.List.Elements.{All-more}
use Rattle.async_bound.specs.Streams.{IsStream}
use Rattle.async_bound.proofs.stream.are_streams.Goals as goal

pub loop-stream-preserved : goal.loop-stream-preserved
loop-stream-preserved c =
    All-more IsStream c.args.streams.now c.loop-stream.stream-index (record { gap = 0; burst = 0; id = 0; bytes = 0 }) c.loop-stream-test.true c.loop-stream.invariant
    (c.is_stream.ensures.known c.if-not-is_stream.false)

pub returns-clause-known : goal.returns-clause-known
returns-clause-known c = λ _.
    subst (All IsStream) (take_all c.loop-stream.stream-index c.args.streams.now (let past = c.loop-stream-test.false in omega arith)) c.loop-stream.invariant
