use Rattle.std.proofs.Common.{◌-◌, sym, ◌∙◌, length-take, arith}
use Rattle.planner_policies.specs.declared.due.Due.{Due}
use Rattle.planner_policies.proofs.Lines.{moved_up-start, moved_up-next, put_in}
use Rattle.planner_policies.proofs.line.SlotLine.put.Goals as goal
use Rattle.planner_policies.proofs.line.SlotLine.put.Goals.{then-loop-place-test+else-not-is_by, else-loop-place-test}

abbrev no_due : Due
no_due = record { key = 0; priority = 0; slot = 0; cost = 0; release = 0; last = 0 }

pub loop-place-init : goal.loop-place-init
loop-place-init g c = grind (arith, length-take, moved_up-start)

pub loop-place-preserved : goal.loop-place-preserved
loop-place-preserved g c =
    let now = c.loop-place.self-inside.places in
    let place = c.loop-place.place in
    record {
      count = c.loop-place.invariant.count;
      moved = moved_up-next c.self.inside.places now c.args.due no_due place (place - 1) c.self.inside.count (omega arith) c.loop-place.invariant.moved
          (sym c.is_by.ensures.order ∙ c.if-not-is_by.true);
    }

pub returns : goal.returns
returns g c = grind (arith, put_in, then-loop-place-test+else-not-is_by, else-loop-place-test)
