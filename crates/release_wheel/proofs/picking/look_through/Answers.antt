use Rattle.std.proofs.Common.{◌∙◌, arith}
use Rattle.bit_sets.specs.Rows.{rows_left}
use Rattle.release_wheel.proofs.RowPicking.{looking-on, looking-sooner}
use Rattle.release_wheel.proofs.picking.look_through.Goals as goal

pub loop-rest-preserved-then-lasts-next : goal.loop-rest-preserved-then-lasts-next
loop-rest-preserved-then-lasts-next c =
    let l = c.loop-rest in
    let next = c.first_left-next in
    let less = c.without_first-rest in
    let sooner = c.if-lasts-next.true in
    record {
      soonest = looking-sooner c.args.lasts.now c.args.rows (rows_left l.rest) (rows_left less.result) l.row l.last next.result l.invariant.soonest
          next.ensures.stands next.ensures.none_before (less.ensures.rows next.result next.ensures.stands next.ensures.none_before) (omega arith);
      base = less.ensures.base ∙ l.invariant.base;
      behind = less.ensures.behind ∙ l.invariant.behind;
    }

pub loop-rest-preserved : goal.loop-rest-preserved
loop-rest-preserved c =
    let l = c.loop-rest in
    let next = c.first_left-next in
    let less = c.without_first-rest in
    let later = c.if-lasts-next.false in
    record {
      soonest = looking-on c.args.lasts.now c.args.rows (rows_left l.rest) (rows_left less.result) l.row l.last next.result l.invariant.soonest
          next.ensures.stands next.ensures.none_before (less.ensures.rows next.result next.ensures.stands next.ensures.none_before) (omega arith);
      base = less.ensures.base ∙ l.invariant.base;
      behind = less.ensures.behind ∙ l.invariant.behind;
    }
