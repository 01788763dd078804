use Rattle.node_model.proofs.Known.{own_slot-is}
use Rattle.node_model.proofs.node.Node.own_slot.Goals as goal

pub returns : goal.returns
returns c = rw (← c.self.view_is) (record { slot = own_slot-is c.self.inside.entries.items c.self.inside.own c.args.id _ c.self.invariant.own_slots c.slot_among.ensures.slot })
