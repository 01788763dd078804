use Rattle.std.proofs.Common.{◌<◌}
use Rattle.std.proofs.lemmas.List.Elements.{All-weaker}
use Rattle.bit_sets.specs.Sets.{most_slots}
use Rattle.change_protocol.specs.Malformed.{bounds_of}
use Rattle.change_protocol.specs.Operations.{slot_of}
use Rattle.change_protocol.proofs.Allowed.{IsAllowed, allowed-most}
use Rattle.change_protocol.proofs.applying.new_entries.Goals as goal

pub place-requires-clause-slots : goal.place-requires-clause-slots
place-requires-clause-slots c =
    let placed = c.args.table.now.placed.now in
    let start = c.args.change.now.start in
    let ops = c.as_slice-ops.result.now in
    All-weaker (IsAllowed most_slots placed start) (λ op. slot_of op < most_slots) (λ op allowed. allowed.slot) ops
    (allowed-most placed (bounds_of c.args.nodes c.args.slots) start ops c.requires.slots c.in_ok-check_operations.ensures.ok)
