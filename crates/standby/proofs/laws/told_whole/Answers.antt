use Rattle.std.proofs.Common.{[], refl}
use Rattle.standby.proofs.Behind.{nothing-left}
use Rattle.standby.proofs.laws.told_whole.Goals as goal

pub returns : goal.returns
returns c = record {
  nothing = λ rules whole. record { front = []; back = whole; parts = refl; same_core = refl; to_tell = refl };
  all = nothing-left;
}
