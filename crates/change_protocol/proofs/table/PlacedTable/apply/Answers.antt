use Rattle.std.proofs.Common.{◌∙◌, ap, length, sym}
use Rattle.change_protocol.proofs.Allowed.{formed-live, formed-slots}
use Rattle.change_protocol.proofs.Counts.{counts-before}
use Rattle.change_protocol.proofs.Kept.{changed-applied}
use Rattle.change_protocol.proofs.WellPlaced.{well_placed-formed}
use Rattle.change_protocol.proofs.table.PlacedTable.apply.Goals as goal

pub change_list-requires-clause-slots : goal.change_list-requires-clause-slots
change_list-requires-clause-slots c =
    formed-slots c.of-table.result.placed.now c.args.nodes c.args.slots c.args.change.now c.requires.slots c.in_ok-added.ensures.well_formed

pub change_list-requires-clause-live : goal.change_list-requires-clause-live
change_list-requires-clause-live c =
    rw (c.of-table.ensures, c.as_slice.ensures.value) at
    (formed-live c.of-table.result.placed.now c.args.nodes c.args.slots c.args.change.now c.in_ok-added.ensures.well_formed)

pub count_from-requires-clause-well_placed : goal.count_from-requires-clause-well_placed
count_from-requires-clause-well_placed c =
    rw (c.as_slice-3.ensures.value, c.in_ok-change_list.ensures.list, c.as_slice-2.ensures.value, c.in_ok-added.ensures.added, c.of-table.ensures, c.as_slice.ensures.value)
    (well_placed-formed c.self.inside.placed.items c.args.nodes c.args.slots c.args.change.now c.requires.slots c.self.invariant.well_placed
    (rw (c.of-table.ensures, c.as_slice.ensures.value) at c.in_ok-added.ensures.well_formed) c.in_ok-added.ensures.types)

pub count_from-requires-clause-counted : goal.count_from-requires-clause-counted
count_from-requires-clause-counted c =
    counts-before c.self.inside.placed.items _ c.as_slice-3.result.now c.args.change.now.start c.args.change.now.ops c.self.inside.counts c.len-before.result c.self.invariant.counted
    (c.len-before.ensures ∙ sym c.as_slice.ensures.len ∙ ap length c.as_slice.ensures.value)
    (c.as_slice-3.ensures.value ∙ c.in_ok-change_list.ensures.list)

pub returns-clause-changed : goal.returns-clause-changed
returns-clause-changed c =
    rw (← c.self.view_is, c.in_ok-change_list.ensures.list, c.as_slice-2.ensures.value, c.in_ok-added.ensures.added, c.of-table.ensures, c.as_slice.ensures.value)
    (changed-applied c.self.inside.placed.items c.args.change.now c.self.invariant.well_placed.in_range)
