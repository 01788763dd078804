use Rattle.std.proofs.Common.{arith, ◌∙◌}
use Rattle.std.proofs.lemmas.List.{length-set}
use Rattle.node_model.proofs.Ready.{all-forgotten, none-forgotten, one-forgotten}
use Rattle.node_model.proofs.entries.forget.Goals as goal

pub loop-slot-init : goal.loop-slot-init
loop-slot-init c = grind (arith, none-forgotten)

pub loop-slot-preserved : goal.loop-slot-preserved
loop-slot-preserved c = record {
  forgotten = λ before ready. one-forgotten c.loop-slot.slot c.loop-slot.ready (c.loop-slot.invariant.forgotten before ready);
  size = length-set c.loop-slot.ready c.loop-slot.slot _ ∙ c.loop-slot.invariant.size;
}

pub returns : goal.returns
returns c = record {
  ready = λ before entries ready. all-forgotten entries c.loop-slot.slot c.loop-slot.ready (omega (arith, c.loop-slot.invariant.size))
      (c.loop-slot.invariant.forgotten before ready);
}
