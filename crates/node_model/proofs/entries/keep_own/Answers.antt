use Rattle.std.proofs.Common.{◌≡◌, ◌||◌, ◌==◌, true, None, get_or, ap, ◌∙◌, arith}
use Rattle.std.proofs.lemmas.Bool.Decides.{nat_tests}
use Rattle.std.proofs.lemmas.List.{take_all}
use Rattle.requirement_table.specs.declared.entries.Placed.{Placed}
use Rattle.node_model.specs.Kept.{kept_of}
use Rattle.node_model.proofs.Known.{IsWellPlaced-kept, kept-fewer}
use Rattle.node_model.proofs.entries.keep_own.Goals as goal

pub returns-clause-well_placed : goal.returns-clause-well_placed
returns-clause-well_placed c =
    rw (c.loop-p.invariant.own ∙ ap (kept_of c.args.all c.args.number) (take_all c.loop-p.p-index c.args.placed.now c.loop-p-test.false))
    (IsWellPlaced-kept c.args.all c.args.number c.args.placed.now c.requires.well_placed)

pub push_reserved-requires : goal.push_reserved-requires
push_reserved-requires c =
    let d : Placed = record {
      entry = record { slot = 0; node = 0; length = 0; phase = 0; period = 0; deadline = 0; priority = 0 };
      origin = 0;
      end = None;
    } in
    let passes : (c.args.all || (get_or c.args.placed.now c.loop-p.p-index d).entry.node == c.args.number) ≡ true
    = grind (arith, nat_tests) in
    let few = kept-fewer c.args.all c.args.number c.args.placed.now c.loop-p.p-index d c.loop-p-test.true passes in
    omega (arith, few, c.loop-p.invariant.few, c.loop-p.invariant.capacity, c.requires.room)
