use Rattle.text_fields.specs.MaskText.{mask_digits}
use Rattle.text_fields.proofs.Shared.{no_feed-mask}
use Rattle.plan_check.proofs.plan_reading.mask_line.Goals as goal

pub returns-in_err-digits-clause-none : goal.returns-in_err-digits-clause-none
returns-in_err-digits-clause-none c =
    rw c.from_residual.ensures
    (λ n after small is. c.in_err-digits.ensures.none (mask_digits n) after (no_feed-mask n) is)

pub returns-in_err-mask-clause-none : goal.returns-in_err-mask-clause-none
returns-in_err-mask-clause-none c =
    rw c.from_residual-in_err-mask.ensures
    (λ n after small is. c.in_err-mask.ensures.none n small (c.in_ok-digits.ensures.only (mask_digits n) after (no_feed-mask n) is))
