use Rattle.std.proofs.Common.{◌≡◌, ◌+◌, ◌-◌, ap, ◌∙◌, arith}
use Rattle.admission.proofs.Decided.{breaks-on, planned-whole, repeated-none, repeats-on, stays-on, walked-missed, walked-none}
use Rattle.admission.specs.Verdict.{masks_of, plan_from}
use Rattle.admission.proofs.certifying.repeated.Goals as goal

pub plan_cycles-requires-clause-none_missed : goal.plan_cycles-requires-clause-none_missed
plan_cycles-requires-clause-none_missed c =
    repeated-none _ _ _ _ _ _ _ _ _ c.walk_over-walk.ensures.walked c.in-Ok.field-0.first (c.in-Ok.field-0.first + c.in-Ok.field-0.length) c.in-Ok.ensures.repeat

pub first_miss-requires-clause-none_before : goal.first_miss-requires-clause-none_before
first_miss-requires-clause-none_before c =
    let ends = rw c.in-Err-Broken.field-0-is at c.in-Err-Broken.ensures.ends in
    walked-none _ _ _ _ _ _ _ _ _ c.walk_over-walk.ensures.walked c.in-Err-Broken.at ends.1

pub first_miss-requires-clause-missed : goal.first_miss-requires-clause-missed
first_miss-requires-clause-missed c =
    let ends = rw c.in-Err-Broken.field-0-is at c.in-Err-Broken.ensures.ends in
    walked-missed _ _ _ _ _ _ _ _ _ c.walk_over-walk.ensures.walked c.in-Err-Broken.at ends.1

pub returns-in-Err-Broken-clause-fault : goal.returns-in-Err-Broken-clause-fault
returns-in-Err-Broken-clause-fault c =
    let ends = rw c.in-Err-Broken.field-0-is at c.in-Err-Broken.ensures.ends in
    breaks-on _ _ _ _ _ _ _ _ _ c.walk_over-walk.ensures.walked c.in-Err-Broken.at c.in_ok-slot-in-Err-Broken.field-0 ends.0 ends.1 c.in_ok-slot-in-Err-Broken.ensures.miss

pub returns-in-Err-NoRepeat-clause-fault : goal.returns-in-Err-NoRepeat-clause-fault
returns-in-Err-NoRepeat-clause-fault c =
    let ends = rw c.in-Err-NoRepeat.field-0-is at c.in-Err-NoRepeat.ensures.ends in
    stays-on _ _ _ _ _ _ _ _ _ c.walk_over-walk.ensures.walked c.in-Err-NoRepeat.walked ends.0 ends.1

pub returns-in-Ok-clause-planned : goal.returns-in-Ok-clause-planned
returns-in-Ok-clause-planned c =
    let again = c.in-Ok.field-0 in
    let state = c.args.state.now in
    let behind : again.first + again.length ≡ state.cycle + again.first - state.cycle + again.length = omega arith in
    record {
      length = again.length;
      listed =
          planned-whole _ _ _ _ _ _ _ _ _ c.walk_over-walk.ensures.walked (again.first + again.length) c.in_ok-planned-in-Ok.planned.items _
          c.in_ok-planned-in-Ok.ensures.planned
          ∙ ap (masks_of (plan_from c.args.rules.now c.args.placed.now state.cycle state.pending)) behind;
      repeats =
          repeats-on _ _ _ _ _ _ _ _ _ c.walk_over-walk.ensures.walked again.first again.length
          c.in-Ok.ensures.repeat c.in-Ok.ensures.within;
    }
