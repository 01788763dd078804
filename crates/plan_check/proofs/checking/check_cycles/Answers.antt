use Rattle.std.proofs.Common.{refl, ap, ◌∙◌, arith}
use Rattle.plan_check.specs.PlanKept.{is_held}
use Rattle.plan_check.proofs.CycleSteps.{held-start, passed-start}
use Rattle.plan_check.proofs.checking.check_cycles.Goals as goal

pub loop-cycle-init : goal.loop-cycle-init
loop-cycle-init c =
    let value = c.from-cycle.ensures.value in
    record {
      after = omega arith;
      within = omega arith;
      passed = passed-start c.args.placed.now c.from-cycle.result c.slots_of-slots.result _ refl refl;
      last = λ wrong. absurd (let none = c.none-last.ensures.none in cc);
      held = λ s known.
          held-start c.args.placed.now c.args.certificate.now c.pending-held.result c.pending-held.ensures.value s
          ∙ ap (λ n. is_held c.args.placed.now c.args.certificate.now n s) (omega arith);
      before = λ wrong s known. absurd (let after = c.first-first.ensures.after in let same = c.first-first.ensures.value in omega arith);
      good = λ n wrong. absurd (omega arith);
    }
