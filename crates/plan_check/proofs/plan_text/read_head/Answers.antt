use Rattle.std.proofs.Common.{sym}
use Rattle.plan_check.proofs.HeadReads.{wrong-first, wrong-from, wrong-head, wrong-length, wrong-length-range, wrong-near, wrong-pending}
use Rattle.plan_check.proofs.plan_text.read_head.Goals as goal

pub returns-in_default-clause-wrong : goal.returns-in_default-clause-wrong
returns-in_default-clause-wrong c = wrong-head c.args.bytes.now c.in_default.ensures.none

pub returns-in_default-number_line-clause-wrong : goal.returns-in_default-number_line-clause-wrong
returns-in_default-number_line-clause-wrong c =
    wrong-from c.in-Some.begun.0 c.args.bytes.now c.in-Some.begun.1.now c.in-Some.ensures.found c.in_default-number_line.ensures.none

pub returns-in_default-mask_line-clause-wrong : goal.returns-in_default-mask_line-clause-wrong
returns-in_default-mask_line-clause-wrong c =
    wrong-pending c.in-Some.begun.0 c.args.bytes.now c.in-Some.begun.1.now c.in-Some-number_line.behind_from.now c.in-Some-number_line.from c.in-Some.ensures.found
    c.in-Some-number_line.ensures.found c.in-Some-number_line.ensures.below c.in_default-mask_line.ensures.none

pub returns-in_default-number_line-2-clause-wrong :
    goal.returns-in_default-number_line-2-clause-wrong
returns-in_default-number_line-2-clause-wrong c =
    wrong-first c.in-Some.begun.0 c.args.bytes.now c.in-Some.begun.1.now c.in-Some-number_line.behind_from.now c.in-Some-mask_line.pending.1.now c.in-Some-number_line.from
    c.in-Some-mask_line.pending.0 c.in-Some.ensures.found
    c.in-Some-number_line.ensures.found c.in-Some-number_line.ensures.below c.in-Some-mask_line.ensures.found c.in-Some-mask_line.ensures.below
    c.in_default-number_line-2.ensures.none

pub returns-then-not-is_near-clause-wrong : goal.returns-then-not-is_near-clause-wrong
returns-then-not-is_near-clause-wrong c =
    wrong-near c.in-Some.begun.0 c.args.bytes.now c.in-Some.begun.1.now c.in-Some-number_line.behind_from.now c.in-Some-mask_line.pending.1.now
    c.in-Some-number_line-2.behind_first.now c.in-Some-number_line.from
    c.in-Some-mask_line.pending.0 c.in-Some-number_line-2.first c.in-Some.ensures.found
    c.in-Some-number_line.ensures.found c.in-Some-number_line.ensures.below c.in-Some-mask_line.ensures.found c.in-Some-mask_line.ensures.below
    c.in-Some-number_line-2.ensures.found c.in-Some-number_line-2.ensures.below (sym c.if-not-is_near.ensures.near)

pub returns-in_default-number_line-3-clause-wrong :
    goal.returns-in_default-number_line-3-clause-wrong
returns-in_default-number_line-3-clause-wrong c =
    wrong-length c.in-Some.begun.0 c.args.bytes.now c.in-Some.begun.1.now c.in-Some-number_line.behind_from.now c.in-Some-mask_line.pending.1.now
    c.in-Some-number_line-2.behind_first.now c.in-Some-number_line.from
    c.in-Some-mask_line.pending.0 c.in-Some-number_line-2.first c.in-Some.ensures.found
    c.in-Some-number_line.ensures.found c.in-Some-number_line.ensures.below c.in-Some-mask_line.ensures.found c.in-Some-mask_line.ensures.below
    c.in-Some-number_line-2.ensures.found c.in-Some-number_line-2.ensures.below (sym c.if-not-is_near.ensures.near)
    c.in_default-number_line-3.ensures.none

pub returns-then-not-is_length-clause-wrong : goal.returns-then-not-is_length-clause-wrong
returns-then-not-is_length-clause-wrong c =
    wrong-length-range c.in-Some.begun.0 c.args.bytes.now c.in-Some.begun.1.now c.in-Some-number_line.behind_from.now c.in-Some-mask_line.pending.1.now
    c.in-Some-number_line-2.behind_first.now c.in-Some-number_line-3.behind_length.now c.in-Some-number_line.from
    c.in-Some-mask_line.pending.0 c.in-Some-number_line-2.first c.in-Some-number_line-3.length c.in-Some.ensures.found
    c.in-Some-number_line.ensures.found c.in-Some-number_line.ensures.below c.in-Some-mask_line.ensures.found c.in-Some-mask_line.ensures.below
    c.in-Some-number_line-2.ensures.found c.in-Some-number_line-2.ensures.below (sym c.if-not-is_near.ensures.near)
    c.in-Some-number_line-3.ensures.found c.in-Some-number_line-3.ensures.below (sym c.if-not-is_length.ensures.length)
