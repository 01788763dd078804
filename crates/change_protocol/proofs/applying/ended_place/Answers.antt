use Rattle.change_protocol.proofs.Counts.{ends-changed, ends-removed}
use Rattle.change_protocol.proofs.applying.ended_place.Goals as goal

pub returns-in-Remove : goal.returns-in-Remove
returns-in-Remove c = record {
  only = ends-removed c.args.counts.now c.args.op.now c.in-Remove.slot c.last_place.result c.in-Remove.is c.requires c.last_place.ensures.none c.last_place.ensures.some;
}

pub returns-in-Change : goal.returns-in-Change
returns-in-Change c = record {
  only = ends-changed c.args.counts.now c.args.op.now c.in-Change.entry c.last_place-in-Change.result c.in-Change.is c.requires c.last_place-in-Change.ensures.none c.last_place-in-Change.ensures.some;
}
