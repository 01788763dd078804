use Rattle.std.proofs.Common.{◌-◌, arith}
use Rattle.change_protocol.proofs.Moving.{moved-more, range-there}
use Rattle.requirement_table.specs.Table.{IsInRange}
use Rattle.change_protocol.proofs.pruning.move_to_end.Goals.{After-entry_at-p}
use Rattle.change_protocol.proofs.pruning.move_to_end.Goals as goal

in-range : (c : After-entry_at-p) → IsInRange c.entry_at-p.result
in-range c =
    range-there c.args.cycle c.args.list.now c.loop-place.list c.loop-place.first c.loop-place.slots c.loop-place.place (c.loop-place.place - 1) c.entry_at-p.result
    (omega (arith, c.loop-place-test.true)) c.loop-place.invariant (c.entry_at-p.ensures.value c.entry_at-p.result) c.requires.in_range

pub may_go-requires : goal.may_go-requires
may_go-requires c = record { in_range = in-range ((goal.at.may_go-requires c).After-entry_at-p) }

pub with-slots-requires : goal.with-slots-requires
with-slots-requires c = (in-range ((goal.at.with-slots-requires c).After-entry_at-p)).entry.slot

pub loop-place-preserved : goal.loop-place-preserved
loop-place-preserved c =
    let moved = c.put_before-first.ensures in
    moved-more c.args.cycle c.args.list.now c.loop-place.list c.put_before-first.new.list c.loop-place.first c.put_before-first.result
    c.loop-place.slots c.with-slots.result c.loop-place.place (c.loop-place.place - 1) c.entry_at-p.result c.may_go.result (omega (arith, c.loop-place-test.true))
    c.loop-place.invariant (c.entry_at-p.ensures.value c.entry_at-p.result) c.may_go.ensures.goes moved.same moved.before moved.after moved.front moved.moved c.with-slots.ensures.slots
