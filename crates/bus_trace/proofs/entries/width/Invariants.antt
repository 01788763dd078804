use Rattle.std.proofs.Common.{◌≡◌, ◌+◌, drop}
use Rattle.bit_sets.specs.Sets.{has_bit}
use Rattle.requirement_table.specs.Table.{IsWellPlaced, width_in}
use Rattle.bus_trace.proofs.entries.width.Given as goal

abbrev pub invariant-loop-p : goal.invariant-loop-p
invariant-loop-p l = record {
  so_far : l.width + width_in (drop l.p-index l.placed) l.cycle (has_bit l.mask) ≡ width_in l.placed l.cycle (has_bit l.mask);
  well : IsWellPlaced (drop l.p-index l.placed);
}
