use Rattle.std.proofs.Common.{All, arith, refl, subst, take_all}
use Rattle.std.proofs.lemmas.List.Elements.{All-more}
use Rattle.std.proofs.lemmas.Option.{slice_get-get_or}
use Rattle.bounded_runs.specs.Strays.{IsCloseTo}
use Rattle.bounded_runs.proofs.of_streams.first_close.Goals as goal

pub loop-stream-preserved : goal.loop-stream-preserved
loop-stream-preserved c =
    All-more (λ stream. IsCloseTo c.args.arrived.now c.args.at stream → ⊥) c.args.streams.now c.loop-stream.stream-index (record { gap = 0; burst = 0; id = 0; bytes = 0 }) c.loop-stream-test.true
    c.loop-stream.invariant (c.if-is_close.ensures.no refl)

pub returns-then-is_close : goal.returns-then-is_close
returns-then-is_close c = record {
  some = record {
    place = c.loop-stream.stream-index;
    there = slice_get-get_or c.args.streams.now c.loop-stream.stream-index (record { gap = 0; burst = 0; id = 0; bytes = 0 }) c.loop-stream-test.true;
    close = c.if-is_close.ensures.yes refl;
    first = c.loop-stream.invariant;
  };
  none = tt;
}

pub returns-clause-none : goal.returns-clause-none
returns-clause-none c =
    subst (All (λ stream. IsCloseTo c.args.arrived.now c.args.at stream → ⊥)) (take_all c.loop-stream.stream-index c.args.streams.now (let past = c.loop-stream-test.false in omega arith)) c.loop-stream.invariant
