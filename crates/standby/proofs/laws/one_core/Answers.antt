use Rattle.std.proofs.Common.{[], refl}
use Rattle.standby.proofs.Cores.{is_changed-core, learned-core, next-core, openings-core, placed-core}
use Rattle.standby.proofs.GoingOn.{order-core, right-core}
use Rattle.standby.proofs.laws.one_core.Goals as goal

pub returns : goal.returns
returns c = record {
  placed = placed-core;
  next = next-core;
  changed = is_changed-core;
  learned = learned-core;
  openings = λ one other same. openings-core [] [] one other refl same;
  order = order-core;
  right = right-core;
}
