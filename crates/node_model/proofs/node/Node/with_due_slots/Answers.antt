use Rattle.std.proofs.Common.{rules, ◌≡◌, Some, option_map, sym, ap, ◌∙◌, subst}
use Rattle.std.specs.Prelude.{IfSome}
use Rattle.node_model.specs.Node.{NodeView}
use Rattle.node_model.specs.Kept.{KnowsDue, opened_of}
use Rattle.node_model.proofs.DueSlots.{with-due}
use Rattle.node_model.proofs.node.Node.with_due_slots.Goals as goal

pub returns-in-Some : goal.returns-in-Some
returns-in-Some c =
    let o = c.in-Some.open_cycle in
    let is : c.self.inside.opened ≡ Some o = search rules in
    let open_cycle : c.args.self.now.state.opened ≡ Some (opened_of o) =
    sym (ap (λ (v : NodeView). v.state.opened) c.self.view_is) ∙ ap (option_map opened_of) is in
    let knows = subst (λ (v : NodeView). KnowsDue v.state.entries o) c.self.view_is
    (subst (λ x. IfSome x (KnowsDue c.self.inside.entries.items)) is c.self.invariant.due) in
    record { slots = with-due c.args.self.now.state o c.args.others c.union.result open_cycle knows c.union.ensures.set }
