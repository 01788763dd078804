use Rattle.std.proofs.Common.{nat_le, List, sym, subst}
use Rattle.requirement_table.specs.declared.entries.Placed.{Placed}
use Rattle.planner_policies.specs.declared.Fill.{Fill}
use Rattle.release_wheel.specs.Taking.{AreOfDistinctSlots, IsTook}
use Rattle.release_wheel.proofs.RowCycles.{distinct, part-by-row}
use Rattle.release_wheel.proofs.wheel.take_by_row.Goals as goal

pub take_rows-requires-clause-distinct : goal.take_rows-requires-clause-distinct
take_rows-requires-clause-distinct c =
    let w = c.args.wheel.now in
    let P : List Placed → Type 0 = λ entries. AreOfDistinctSlots entries c.args.due in
    subst P (sym c.as_slice.ensures.value)
    (distinct c.args.ranked.now c.args.state.now.pending c.args.w w c.requires.ready c.args.due c.requires.rows)

pub returns : goal.returns
returns c =
    let w = c.args.wheel.now in
    let result = c.take_rows.result in
    let P : List Placed → Type 0 = λ entries. IsTook c.fill.result c.args.w nat_le entries c.args.due result.left result.mask result.width in
    let Q : Fill → Type 0 = λ fill. IsTook fill c.args.w nat_le w.rows.entries.items c.args.due result.left result.mask result.width in
    let took = subst Q c.fill.ensures.value (subst P c.as_slice.ensures.value c.take_rows.ensures.took) in
    record {
      took = part-by-row c.args.ranked.now c.args.state.now.pending c.args.w w c.requires.ready c.args.due result.left result.mask result.width
          c.requires.rows took c.requires.order;
    }
