use Rattle.std.proofs.Common.{None, arith}
use Rattle.std.proofs.lemmas.Grind.{common_steps}
use Rattle.std.proofs.lemmas.List.Elements.{All-more}
use Rattle.saved_state.specs.Bytes.{IsTypedPlaced}
use Rattle.requirement_table.specs.declared.entries.Placed.{Placed}
use Rattle.saved_state.proofs.Standing.{list-more}
use Rattle.saved_state.proofs.numbers.push_list.Goals as goal

-- the default of an index
none : Placed
none = record {
  entry = record { slot = 0; node = 0; length = 0; phase = 0; period = 0; deadline = 0; priority = 0 };
  origin = 0;
  end = None;
}

pub loop-p-preserved : goal.loop-p-preserved
unfolding none
loop-p-preserved c =
    let placed = c.args.placed.now in
    let i = c.loop-p.p-index in
    let more = list-more placed i none c.loop-p-test.true in
    record {
      put = grind (arith, common_steps, more, c.placed_numbers.ensures.numbers, c.in_ok-extend_from_slice.ensures);
      typed = All-more IsTypedPlaced placed i none c.loop-p-test.true c.loop-p.invariant.typed c.placed_numbers.ensures.typed;
    }
