use Rattle.admission.proofs.Decided.{none-walked, planned-whole}
use Rattle.admission.proofs.certifying.planned.Goals as goal

pub plan_cycles-requires-clause-none_missed : goal.plan_cycles-requires-clause-none_missed
plan_cycles-requires-clause-none_missed c =
    none-walked _ _ _ _ _ _ _ _ _ c.walk_over-walk.ensures.walked c.args.cycles c.requires.none_missed

pub returns : goal.returns
returns c = record {
  masks = planned-whole _ _ _ _ _ _ _ _ _ c.walk_over-walk.ensures.walked c.args.cycles c.in_ok-masks.masks.items _
      c.in_ok-masks.ensures.planned;
}
