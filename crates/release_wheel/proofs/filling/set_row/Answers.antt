use Rattle.std.proofs.Common.{subst, sym, ◌∙◌, arith}
use Rattle.release_wheel.specs.Wheel.{IsPutDown}
use Rattle.release_wheel.proofs.RowDues.{begins-always}
use Rattle.release_wheel.proofs.RowSums.{costs-small}
use Rattle.release_wheel.proofs.filling.set_row.Goals as goal

pub add-requires-clause-cost : goal.add-requires-clause-cost
add-requires-clause-cost c = let small = costs-small c.args.row c.args.rows.now c.args.dues c.requires.room in omega (arith, small.0)

pub add-requires-2-clause-cost : goal.add-requires-2-clause-cost
add-requires-2-clause-cost c = let small = costs-small c.args.row c.args.rows.now c.args.dues c.requires.room in omega (arith, small.1)

pub returns : goal.returns
returns c =
    let p = c.args.placed.now in
    let cycle = c.args.state.now.cycle in
    let next = c.next_release-next.result in
    let last = c.last_if-last.result in
    record {
      set = record {
        begun = c.begins-begun.result;
        waits = c.waits-waits.result;
        next = next;
        last = last;
        next_is = c.next_release-next.ensures.next;
        begun_is = λ on. begins-always p cycle next c.next_release-next.ensures.next (sym c.begins-begun.ensures.begins ∙ on);
        waits_is = c.waits-waits.ensures.waits;
        last_is = c.last_if-last.ensures.last;
        down = subst (λ comes. IsPutDown p c.args.row next last comes c.args.rows.now c.put_down.new.rows) c.comes-comes.ensures.comes c.put_down.ensures.down;
        waiting = record { rows = c.add.ensures.rows; slots = c.add.ensures.slots; cost = c.add.ensures.cost };
        always = record { rows = c.add-2.ensures.rows; slots = c.add-2.ensures.slots; cost = c.add-2.ensures.cost };
        soonest = c.min.ensures;
      };
    }
