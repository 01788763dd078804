use Rattle.admission.proofs.Multiples.{bound-all, bound-step}
use Rattle.admission.proofs.periods.bound.Goals as goal

pub loop-p-preserved : goal.loop-p-preserved
loop-p-preserved c =
    bound-step c.args.from c.loop-p.p-index c.args.placed.now _ c.loop-p.bound c.settled.result c.max-bound.result c.loop-p-test.true
    c.max-bound.ensures c.loop-p.invariant c.settled.ensures.cycle

pub returns : goal.returns
returns c = record {
  cycle = bound-all c.args.from c.loop-p.p-index c.args.placed.now c.loop-p.bound c.loop-p-test.false c.loop-p.invariant;
}
