use Rattle.plan_check.proofs.LineReads.{counted-last, counted-parts}
use Rattle.text_fields.proofs.Shared.{no_split}
use Rattle.text_fields.specs.MaskText.{mask_digits}
use Rattle.std.specs.Fmt.{decimal}
use Rattle.std.proofs.Common.{◌∙◌}
use Rattle.plan_check.proofs.plan_reading.counted_of.Goals as goal

pub returns-in_err-digits-clause-none : goal.returns-in_err-digits-clause-none
returns-in_err-digits-clause-none c =
    rw c.from_residual.ensures
    (λ run of is.
    no_split 32 c.args.line.now (mask_digits run.mask) (decimal run.count) c.in_err-digits.ensures.none
    (is ∙ counted-parts run.mask run.count))

pub returns-in_err-mask-clause-none : goal.returns-in_err-mask-clause-none
returns-in_err-mask-clause-none c =
    rw c.from_residual-in_err-mask.ensures
    (λ run of is.
    c.in_err-mask.ensures.none run.mask of.below
    (counted-last c.args.line.now c.in_ok-digits.digits.now c.in_ok-digits.behind.now run.mask run.count of.small c.in_ok-digits.ensures.split
    c.in_ok-digits.ensures.behind is).0)

pub returns-in_err-count-clause-none : goal.returns-in_err-count-clause-none
returns-in_err-count-clause-none c =
    rw c.from_residual-in_err-count.ensures
    (λ run of is.
    c.in_err-count.ensures.none run.count of.small
    (counted-last c.args.line.now c.in_ok-digits.digits.now c.in_ok-digits.behind.now run.mask run.count of.small c.in_ok-digits.ensures.split
    c.in_ok-digits.ensures.behind is).1)
