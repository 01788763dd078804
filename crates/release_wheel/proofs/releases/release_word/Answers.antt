use Rattle.std.proofs.Common.{◌∙◌}
use Rattle.bit_sets.specs.Sets.{has_bit}
use Rattle.bit_sets.specs.Rows.{rows_left}
use Rattle.release_wheel.proofs.Releasing.{row-within}
use Rattle.release_wheel.proofs.releases.release_word.Goals as goal

pub loop-left-preserved : goal.loop-left-preserved
loop-left-preserved c =
    let l = c.loop-left in
    let first = c.first_left-row in
    let less = c.without_first-left in
    record {
      going = c.look_at.ensures.next (has_bit c.args.pending) (rows_left l.left) (rows_left less.result) l.invariant.going first.ensures.stands
          (less.ensures.rows first.result first.ensures.stands first.ensures.none_before);
      entries = c.look_at.ensures.entries ∙ l.invariant.entries;
      base = less.ensures.base ∙ l.invariant.base;
      behind = less.ensures.behind ∙ l.invariant.behind;
    }

pub look_at-requires-clause-row : goal.look_at-requires-clause-row
look_at-requires-clause-row c =
    let l = c.loop-left in
    row-within (has_bit c.args.pending) c.args.cycle (rows_left l.left) c.first_left-row.result l.rows l.dues l.invariant.going c.first_left-row.ensures.stands

pub look_at-requires-clause-room : goal.look_at-requires-clause-room
look_at-requires-clause-room c = c.loop-left.invariant.going.room
