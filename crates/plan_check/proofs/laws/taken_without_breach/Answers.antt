use Rattle.plan_check.proofs.Taken.{breach-wrong, goods}
use Rattle.plan_check.proofs.Unbroken.{unbroken-taken}
use Rattle.plan_check.proofs.laws.taken_without_breach.Goals as goal

pub returns : goal.returns
returns c = record {
  none = λ placed window certificate breach well valid taken. breach-wrong placed window certificate well valid taken breach;
  good = λ placed window certificate n well valid taken. goods placed window certificate well valid taken n;
  taken = λ placed window certificate well valid is none. unbroken-taken placed window certificate none well valid is;
}
