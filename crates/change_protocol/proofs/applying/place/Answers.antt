use Rattle.std.proofs.lemmas.List.Elements.{All-more}
use Rattle.change_protocol.specs.Applied.{placed_by}
use Rattle.change_protocol.specs.Operations.{HasTypes}
use Rattle.change_protocol.proofs.Placing.{placed-more}
use Rattle.change_protocol.proofs.applying.place.Goals as goal

pub loop-op-preserved : goal.loop-op-preserved
loop-op-preserved c =
    let ops = c.args.ops.now in
    let i = c.loop-op.op-index in
    let within = c.loop-op-test.true in
    record {
      list =
          placed-more (placed_by c.args.table.now.placed.now c.args.start) c.args.list.now.items c.loop-op.list.items c.put.new.list.items ops i _ c.placed_by.result within
          c.loop-op.invariant.list c.in_ok-put.ensures.list c.placed_by.ensures.placed;
      types = All-more HasTypes ops i _ within c.loop-op.invariant.types c.placed_by.ensures.types;
    }
