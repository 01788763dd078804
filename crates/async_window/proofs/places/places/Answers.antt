use Rattle.std.proofs.Common.{arith, rules}
use Rattle.async_window.proofs.Table.{IsTable-none, IsTable-more, IsTable-all, rising-few}
use Rattle.async_window.proofs.places.places.Goals as goal

pub loop-place-init : goal.loop-place-init
loop-place-init c = IsTable-none c.args.ids.now c.in_ok-table.table.items (c.in_ok-table.ensures.items_if_clones_equal (search rules))

pub loop-place-preserved : goal.loop-place-preserved
loop-place-preserved c =
    IsTable-more c.args.ids.now c.loop-place.place c.loop-place.table.items c.from.result c.requires.rising c.loop-place-test.true c.from.ensures
    (search rules) c.loop-place.invariant

pub overflow_cast-place : goal.overflow_cast-place
overflow_cast-place c = grind (arith, rising-few, rules)

pub returns-clause-places : goal.returns-clause-places
returns-clause-places c = IsTable-all c.args.ids.now c.loop-place.place c.loop-place.table.items (omega arith) c.loop-place.invariant
