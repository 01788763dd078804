use Rattle.std.proofs.Common.{refl, arith}
use Rattle.std.proofs.lemmas.List.{get_or_default}
use Rattle.std.proofs.Math.ListN.{length-set}
use Rattle.plan_check.proofs.Marks.{marking-next}
use Rattle.plan_check.proofs.blocks.mark.Goals as goal

pub loop-at-preserved : goal.loop-at-preserved
loop-at-preserved c =
    marking-next c.args.first c.args.step c.args.end c.args.one c.args.sets.now c.loop-at.sets c.loop-at.at c.requires.some c.loop-at-test.true
    c.requires.within c.loop-at.invariant c.loop-at.at c.union.result refl
    (λ slot. grind (arith, get_or_default))
    (length-set c.loop-at.sets c.loop-at.at c.union.result)
