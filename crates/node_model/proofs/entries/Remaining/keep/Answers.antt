use Rattle.requirement_table.proofs.Shared.{not_over-well_placed, instance_in-not_over}
use Rattle.node_model.proofs.entries.Remaining.keep.Goals as goal

pub first_over-self-requires : goal.first_over-self-requires
first_over-self-requires c =
    rw (c.as_slice.ensures.value, c.keep_not_over.ensures.left) (not_over-well_placed c.args.cycle c.args.entries.now c.requires.well_placed)

pub returns-clause-well_placed : goal.returns-clause-well_placed
returns-clause-well_placed c = rw c.keep_not_over.ensures.left (not_over-well_placed c.args.cycle c.args.entries.now c.requires.well_placed)

pub returns-clause-instances : goal.returns-clause-instances
returns-clause-instances c =
    rw c.keep_not_over.ensures.left (λ slot at from. instance_in-not_over c.args.cycle c.args.entries.now slot at from)

pub returns-clause-ready : goal.returns-clause-ready
returns-clause-ready c = c.forget.ensures.ready c.args.self.now.entries.items _ c.requires.ready
