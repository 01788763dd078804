use Rattle.std.proofs.Common.{arith}
use Rattle.std.proofs.lemmas.Bool.{false≢true}
use Rattle.std.proofs.lemmas.Option.{slice_get-get_or}
use Rattle.node_model.proofs.Sendable.{is_some-instance_all, more-sendable}
use Rattle.node_model.proofs.entries.sendable_slots.Goals as goal

pub loop-p-init : goal.loop-p-init
loop-p-init c = grind (arith, false≢true)

pub returns : goal.returns
returns c = grind (arith, is_some-instance_all)

pub loop-p-preserved : goal.loop-p-preserved
loop-p-preserved c = record {
  slots = λ slot. more-sendable _ _ c.args.entries.now c.loop-p.p-index slot c.args.cycle _ c.loop-p-test.true (c.loop-p.invariant.slots slot) (c.with_sendable-slots.ensures.slots slot);
  sendable = c.with_sendable-slots.ensures.sendable c.loop-p.invariant.sendable;
  ready = grind (arith, slice_get-get_or);
}
