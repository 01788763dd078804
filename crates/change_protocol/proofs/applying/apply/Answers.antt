use Rattle.change_protocol.proofs.Allowed.{formed-live, formed-slots}
use Rattle.change_protocol.proofs.Kept.{changed-applied}
use Rattle.change_protocol.proofs.WellPlaced.{well_placed-formed}
use Rattle.change_protocol.proofs.applying.apply.Goals as goal

pub change_list-requires-clause-slots : goal.change_list-requires-clause-slots
change_list-requires-clause-slots c =
    formed-slots c.of-table.result.placed.now c.args.nodes c.args.slots c.args.change.now c.requires.slots c.in_ok-added.ensures.well_formed

pub change_list-requires-clause-live : goal.change_list-requires-clause-live
change_list-requires-clause-live c =
    rw (c.in_ok-list.ensures.list)
    (rw c.of-table.ensures at (formed-live c.of-table.result.placed.now c.args.nodes c.args.slots c.args.change.now c.in_ok-added.ensures.well_formed))

pub returns-clause-well_placed : goal.returns-clause-well_placed
returns-clause-well_placed c =
    rw (c.in_ok-change_list.ensures.list, c.in_ok-list.ensures.list, c.as_slice.ensures.value, c.in_ok-added.ensures.added, c.of-table.ensures)
    (well_placed-formed c.args.placed.now c.args.nodes c.args.slots c.args.change.now c.requires.slots c.requires.well_placed (rw c.of-table.ensures at c.in_ok-added.ensures.well_formed) c.in_ok-added.ensures.types)

pub returns-clause-changed : goal.returns-clause-changed
returns-clause-changed c =
    rw (c.in_ok-change_list.ensures.list, c.in_ok-list.ensures.list, c.as_slice.ensures.value, c.in_ok-added.ensures.added, c.of-table.ensures)
    (changed-applied c.args.placed.now c.args.change.now c.requires.well_placed.in_range)
