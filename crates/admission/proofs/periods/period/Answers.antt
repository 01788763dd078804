use Rattle.std.proofs.Common.{sym, subst}
use Rattle.admission.specs.Period.{IsPeriodUpTo}
use Rattle.admission.proofs.Multiples.{none-more, so_far-all, so_far-more}
use Rattle.admission.proofs.periods.period.Goals as goal

pub returns-in_err-common : goal.returns-in_err-common
returns-in_err-common c = record {
  period = subst (λ found. IsPeriodUpTo c.args.limit c.args.placed.now found) (sym c.from_residual.ensures)
      (none-more c.args.limit c.loop-p.p-index c.args.placed.now _ c.loop-p.common c.loop-p-test.true c.loop-p.invariant c.in_err-common.ensures.least);
}

pub loop-p-preserved : goal.loop-p-preserved
loop-p-preserved c =
    so_far-more c.args.limit c.loop-p.p-index c.args.placed.now _ c.loop-p.common c.in_ok-common.common c.loop-p-test.true
    c.loop-p.invariant c.in_ok-common.ensures.least

pub returns : goal.returns
returns c = record {
  period = so_far-all c.args.limit c.loop-p.p-index c.args.placed.now c.loop-p.common c.loop-p-test.false c.loop-p.invariant;
}
