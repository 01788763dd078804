use Rattle.change_protocol.proofs.Counts.{up-to-last}
use Rattle.change_protocol.proofs.slots.SlotTable.of.Goals as goal

pub invariant_of-result : goal.invariant_of-result
invariant_of-result c = record {
  well_placed = c.requires.well_placed;
  counted = up-to-last c.args.placed.now c.args.counts.now c.requires;
}
