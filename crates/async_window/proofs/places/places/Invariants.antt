use Rattle.async_window.proofs.Table.{IsTable}
use Rattle.async_window.proofs.places.places.Given as goal

abbrev pub invariant-loop-place : goal.invariant-loop-place
invariant-loop-place l = IsTable l.ids l.place l.table.items
