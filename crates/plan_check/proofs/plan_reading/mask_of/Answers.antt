use Rattle.plan_check.proofs.LineReads.{mask-above}
use Rattle.plan_check.proofs.plan_reading.mask_of.Goals as goal

pub returns-else-bits-mask_bound-clause-none : goal.returns-else-bits-mask_bound-clause-none
returns-else-bits-mask_bound-clause-none c = λ m small is.
    mask-above c.args.version c.args.digits.now c.in_ok-bits.bits c.mask_bound.result m c.in_ok-bits.ensures.found c.in_ok-bits.ensures.small
    c.mask_bound.ensures.bound c.if-bits-mask_bound.false small is
