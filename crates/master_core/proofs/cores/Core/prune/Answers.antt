use Rattle.std.proofs.Common.{◌∙◌, List, Option, ap, option_map, subst}
use Rattle.requirement_table.specs.declared.entries.Placed.{Placed}
use Rattle.change_protocol.specs.Pruned.{pruned}
use Rattle.master_core.specs.Cores.{CoreView, IsPruned}
use Rattle.master_core.proofs.CoreSteps.{core-pruned, pruned-is}
use Rattle.master_core.proofs.cores.Core.prune.Goals as goal

pub invariant_of-self : goal.invariant_of-self
invariant_of-self c =
    core-pruned c.safe_states.ensures.pruned _ _ _ c.self.invariant.0 c.self.invariant.1 _ _ c.prune.ensures.pruned c.prune.ensures.shorter
    (c.pruned.ensures.pruned ∙ ap (λ (o : Option (List Placed)). option_map (pruned c.self.inside.table.since) o) c.take.ensures.value)

pub returns : goal.returns
returns c = record {
  pruned =
      subst
      (λ (v : CoreView). IsPruned v (record {
        rules = c.self.inside.rules;
        placed = c.prune.new.placed.items;
        cycle = c.self.inside.state.cycle;
        pending = c.self.inside.state.pending;
        learned = c.pruned.result;
        accepted = c.self.inside.accepted;
        forgets = c.self.inside.forgets;
      }))
      c.self.view_is
      (pruned-is _ _ _ c.self.invariant.1 _ _ c.prune.ensures.pruned
      (c.pruned.ensures.pruned ∙ ap (λ (o : Option (List Placed)). option_map (pruned c.self.inside.table.since) o) c.take.ensures.value));
}
