use Rattle.std.proofs.Common.{◌≡◌, ◌/◌, arith, refl, subst}
use Rattle.admission.proofs.Multiples.{NoneTried, found-multiple, no-multiple}
use Rattle.admission.proofs.periods.multiple_of_both.Goals as goal

pub returns-then-multiple-other-eq0 : goal.returns-then-multiple-other-eq0
returns-then-multiple-other-eq0 c = record {
  least = found-multiple c.args.step c.args.other c.loop-count.count c.args.limit _ c.requires.step c.loop-count.invariant
      c.loop-count-test.true refl c.if-multiple-other-eq0.true;
}

pub returns : goal.returns
returns c =
    let all : c.loop-count.count ≡ c.args.limit / c.args.step = omega arith in
    record {
      least = no-multiple c.args.step c.args.other c.args.limit c.requires.step
          (subst (λ n. NoneTried c.args.step c.args.other n) all c.loop-count.invariant);
    }
