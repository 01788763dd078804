use Rattle.std.proofs.Common.{◌≡◌, ap, ◌∙◌, sym, subst}
use Rattle.requirement_table.specs.Table.{IsWellPlaced}
use Rattle.change_protocol.specs.Applied.{applied}
use Rattle.change_protocol.specs.Pruned.{pruned}
use Rattle.bus_trace.proofs.LogHistory.{entries-changed}
use Rattle.bus_trace.proofs.entries.Entries.accept.Goals as goal

pub returns : goal.returns
returns c =
    let next = c.args.next in
    let whole = c.in_ok-list.list.items in
    let made : whole ≡ applied c.args.self.now.kept.items c.args.change.now =
    c.in_ok-list.ensures.list ∙ ap (λ l. applied l c.args.change.now) c.as_slice.ensures.value in
    let well = subst IsWellPlaced (sym c.prune.ensures.pruned) (c.pruned_lists.ensures.well_placed _ whole c.in_ok-list.ensures.well_placed) in
    record { entries = λ list entries. entries-changed list next _ c.args.change.now _ entries (c.prune.ensures.pruned ∙ ap (pruned next) made) well }
