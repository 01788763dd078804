use Rattle.std.proofs.lemmas.Bool.{eqb-true}
use Rattle.log_reader.proofs.LaneBits.{same-lanes}
use Rattle.log_reader.proofs.lanes.are_same_lanes.Goals as goal

pub returns : goal.returns
returns c = record {
  same = λ yes. same-lanes c.args.one.now c.args.other.now c.args.place c.requires.first c.requires.second (eqb-true _ _ yes);
}
