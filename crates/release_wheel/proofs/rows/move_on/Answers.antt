use Rattle.std.proofs.Common.{arith, rules}
use Rattle.release_wheel.proofs.rows.move_on.Goals as goal

pub returns : goal.returns
returns c = record {
  moved = record {
    entries = search rules;
    nexts = search rules;
    lasts = search rules;
    size = search rules;
    places = grind arith;
  };
}
