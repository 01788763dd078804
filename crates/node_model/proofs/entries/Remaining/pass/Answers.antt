use Rattle.requirement_table.proofs.Shared.{not_over-well_placed, instance_in-not_over}
use Rattle.node_model.proofs.entries.Remaining.pass.Goals as goal

pub first_over-self-requires : goal.first_over-self-requires
first_over-self-requires c =
    rw (c.as_slice.ensures.value, c.drop_over.ensures.left) (not_over-well_placed c.args.cycle c.args.self.now.entries.items c.requires.well_placed)

pub returns-then-self-cycle-clause-well_placed : goal.returns-then-self-cycle-clause-well_placed
returns-then-self-cycle-clause-well_placed c =
    rw c.drop_over.ensures.left (not_over-well_placed c.args.cycle c.args.self.now.entries.items c.requires.well_placed)

pub returns-then-self-cycle-clause-instances : goal.returns-then-self-cycle-clause-instances
returns-then-self-cycle-clause-instances c =
    rw c.drop_over.ensures.left (λ slot at from. instance_in-not_over c.args.cycle c.args.self.now.entries.items slot at from)

pub returns-then-self-cycle-clause-ready : goal.returns-then-self-cycle-clause-ready
returns-then-self-cycle-clause-ready c = c.forget.ensures.ready c.args.self.now.entries.items _ c.requires.ready
