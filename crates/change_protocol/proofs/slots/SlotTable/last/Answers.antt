use Rattle.change_protocol.proofs.Counts.{last-by}
use Rattle.change_protocol.proofs.slots.SlotTable.last.Goals as goal

pub returns-clause-last : goal.returns-clause-last
returns-clause-last c =
    last-by c.args.self.now.placed.now c.args.slot c.args.self.now.counts.now c.last_place.result c.args.self.now.counted c.requires c.last_place.ensures.some
