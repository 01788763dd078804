use Rattle.std.proofs.Common.{refl}
use Rattle.release_wheel.proofs.Demands.{none-valid}
use Rattle.release_wheel.proofs.wheel.set_plain.Goals as goal

pub returns-clause-kept : goal.returns-clause-kept
returns-clause-kept c = λ ranking. record {
  near = c.requires.cycle;
  valid = none-valid ranking.placed c.args.cycle c.args.wheel.now.dues.waiting.slots c.requires.empty;
  plain = λ _. refl;
  turned = λ wrong. absurd (cc);
}
