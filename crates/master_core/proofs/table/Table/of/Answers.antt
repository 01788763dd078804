use Rattle.requirement_table.proofs.Shared.{not_over-well_placed}
use Rattle.master_core.proofs.table.Table.of.Goals as goal

pub rank_list-requires : goal.rank_list-requires
rank_list-requires c = record {
  well_placed =
      rw (c.in_ok-left.ensures.list, c.as_slice.ensures.value)
      (not_over-well_placed c.args.since c.args.placed.items c.requires.well_placed);
}
