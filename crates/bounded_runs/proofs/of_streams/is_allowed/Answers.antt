use Rattle.std.proofs.Common.{◌<◌, All, arith, subst, take_all}
use Rattle.std.proofs.lemmas.List.Elements.{All-more}
use Rattle.bounded_runs.proofs.of_streams.is_allowed.Goals as goal

pub loop-stream-preserved : goal.loop-stream-preserved
loop-stream-preserved c =
    All-more (λ stream. stream.bytes < c.args.bytes) c.args.streams.now c.loop-stream.stream-index (record { gap = 0; burst = 0; id = 0; bytes = 0 }) c.loop-stream-test.true c.loop-stream.invariant (omega arith)

pub returns-clause-no : goal.returns-clause-no
returns-clause-no c = λ _.
    subst (All (λ stream. stream.bytes < c.args.bytes)) (take_all c.loop-stream.stream-index c.args.streams.now (let past = c.loop-stream-test.false in omega arith)) c.loop-stream.invariant
