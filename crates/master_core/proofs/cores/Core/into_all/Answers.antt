use Rattle.std.proofs.Common.{◌∙◌, ◌<◌, All, Bool, true, List, Some, None, if◌then◌else◌, ap, subst, sym}
use Rattle.requirement_table.specs.declared.entries.Placed.{Placed}
use Rattle.requirement_table.specs.Table.{not_over}
use Rattle.master_core.specs.Cores.{CoreView, IsPrunedBefore, with_all}
use Rattle.master_core.proofs.CoreSteps.{all-fields, core-whole}
use Rattle.master_core.proofs.NextPlan.{ranked-valid}
use Rattle.master_core.proofs.States.{left-of}
use Rattle.master_core.proofs.cores.Core.into_all.Goals as goal

pub with_list-requires-clause-same : goal.with_list-requires-clause-same
with_list-requires-clause-same c =
    let held = subst (λ (v : CoreView). IsPrunedBefore v.cycle c.args.all v.placed) (sym c.self.view_is) c.requires.pruned in
    ap (not_over c.self.inside.state.cycle) c.into_lists-placed.ensures.list
    ∙ sym (left-of true c.self.inside.state.cycle c.args.all c.self.inside.table.placed.items held)

pub with_list-requires-clause-valid : goal.with_list-requires-clause-valid
with_list-requires-clause-valid c = ranked-valid _ _ _ c.self.invariant.0 c.self.invariant.1

pub invariant_of-result : goal.invariant_of-result
invariant_of-result c =
    let held = subst (λ (v : CoreView). IsPrunedBefore v.cycle c.args.all v.placed) (sym c.self.view_is) c.requires.pruned in
    let slots = subst (λ (v : CoreView). All (λ p. p.entry.slot < v.rules.slots) c.args.all) (sym c.self.view_is) c.requires.slots in
    let nodes = subst (λ (v : CoreView). All (λ p. p.entry.node < v.rules.nodes) c.args.all) (sym c.self.view_is) c.requires.nodes in
    core-whole (record {
      rules = c.self.inside.rules;
      placed = c.self.inside.table.placed.items;
      cycle = c.self.inside.state.cycle;
      pending = c.self.inside.state.pending;
      learned = c.self.inside.learned;
      accepted = c.self.inside.accepted;
      forgets = c.self.inside.forgets;
    }) c.args.all _ _ (c.with_list.ensures.placed ∙ c.into_lists-placed.ensures.list)
    (c.into_lists-placed.ensures.again ∙ ap (λ (b : Bool). if b then Some c.args.all else None) c.is_some.ensures) c.safe_states.ensures.whole _ _ c.self.invariant.0
    c.self.invariant.1 held c.into_lists-placed.ensures.well_placed slots nodes _ _ c.with_list.ensures.since
    (c.with_list.ensures.ranking
    ∙ ap (λ (l : List Placed). record c.self.inside.table.planner.ranking { placed = not_over c.self.inside.state.cycle l }) (sym c.with_list.ensures.placed))

pub returns : goal.returns
returns c = record {
  core =
      all-fields (record {
        rules = c.self.inside.rules;
        placed = c.self.inside.table.placed.items;
        cycle = c.self.inside.state.cycle;
        pending = c.self.inside.state.pending;
        learned = c.self.inside.learned;
        accepted = c.self.inside.accepted;
        forgets = c.self.inside.forgets;
      }) c.args.all _ _ (c.with_list.ensures.placed ∙ c.into_lists-placed.ensures.list)
      (c.into_lists-placed.ensures.again ∙ ap (λ (b : Bool). if b then Some c.args.all else None) c.is_some.ensures)
      ∙ ap (λ (v : CoreView). with_all v c.args.all) c.self.view_is;
}
