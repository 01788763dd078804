use Rattle.std.proofs.Common.{subst}
use Rattle.planner_policies.specs.declared.Fill.{Fill}
use Rattle.release_wheel.specs.Taking.{IsTook, goes_by, last_of}
use Rattle.release_wheel.proofs.RowCycles.{are-due, distinct, part-by-last}
use Rattle.release_wheel.proofs.wheel.take_by_deadline.Goals as goal

pub pick_rows-requires-clause-due : goal.pick_rows-requires-clause-due
pick_rows-requires-clause-due c =
    are-due c.args.ranked.now c.args.state.now.pending c.args.w c.args.wheel.now c.requires.ready c.args.due c.requires.rows

pub pick_rows-requires-clause-distinct : goal.pick_rows-requires-clause-distinct
pick_rows-requires-clause-distinct c =
    distinct c.args.ranked.now c.args.state.now.pending c.args.w c.args.wheel.now c.requires.ready c.args.due c.requires.rows

pub returns : goal.returns
returns c =
    let w = c.args.wheel.now in
    let result = c.pick_rows.result in
    let Q : Fill → Type 0 = λ fill. IsTook fill c.args.w (goes_by (last_of w)) w.rows.entries.items c.args.due result.left result.mask result.width in
    record {
      took = part-by-last c.args.ranked.now c.args.state.now.pending c.args.w w c.requires.ready c.args.due result.left result.mask result.width
          c.requires.rows (subst Q c.fill.ensures.value c.pick_rows.ensures.took) c.requires.order;
    }
