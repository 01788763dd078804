use Rattle.std.proofs.Common.{◌++◌, ◌∷◌, [], List, take, sym, ap, ◌∙◌}
use Rattle.std.proofs.lemmas.List.{take_more}
use Rattle.std.proofs.lemmas.List.Elements.{All-more}
use Rattle.change_protocol.specs.declared.operations.Op.{Op}
use Rattle.change_protocol.specs.Operations.{HasTypes}
use Rattle.master_core.proofs.table.copy_of.Goals as goal

pub loop-op-preserved : goal.loop-op-preserved
loop-op-preserved c =
    let ops = c.as_slice-ops.result.now in
    let i = c.loop-op.op-index in
    let within = c.loop-op-test.true in
    record {
      copied =
          c.in_ok-push.ensures.items
          ∙ ap (λ (l : List Op). l ++ c.same.result ∷ []) c.loop-op.invariant.copied
          ∙ ap (λ (x : Op). take i ops ++ x ∷ []) c.same.ensures.same
          ∙ sym (take_more ops i _ within);
      types = All-more HasTypes ops i _ within c.loop-op.invariant.types c.same.ensures.types;
    }
