use Rattle.std.proofs.Common.{refl, sym, subst}
use Rattle.planner_policies.specs.Plan.{IsValid}
use Rattle.release_wheel.proofs.copying.without_rows.Goals as goal

pub returns-clause-kept : goal.returns-clause-kept
returns-clause-kept c = λ ranking valid.
    record {
      near = c.requires.near;
      valid = subst (λ slots. IsValid ranking.placed c.args.wheel.now.cycle slots) (sym c.of_slots.ensures.slots) valid;
      plain = λ _. refl;
      turned = λ wrong. absurd (cc);
    }
