use Rattle.release_wheel.specs.Taking.{IsTaking, goes_by, last_of}
use Rattle.release_wheel.proofs.picking.pick_rows.Given as goal

abbrev pub invariant-loop-rest : goal.invariant-loop-rest
invariant-loop-rest l =
    IsTaking l.fill l.w (goes_by (last_of l.wheel)) l.wheel.rows.entries.items l.due l.rest l.left l.mask l.width

abbrev pub decreases-loop-rest : goal.decreases-loop-rest
decreases-loop-rest l = l.rest
