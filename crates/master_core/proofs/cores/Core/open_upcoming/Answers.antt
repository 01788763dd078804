use Rattle.std.proofs.Common.{◌<◌, ◌^◌, List, [], ◌∷◌, ◌++◌, None, subst, sym}
use Rattle.master_core.specs.declared.event.Event.{Event}
use Rattle.master_core.specs.declared.event.Event.TheVariants.{Open}
use Rattle.master_core.specs.Cores.{CoreView, IsCoreUpcoming, IsStateOf}
use Rattle.master_core.proofs.CoreSteps.{behind-is, core-behind, valid-behind}
use Rattle.master_core.proofs.States.{state-opened}
use Rattle.master_core.proofs.cores.Core.open_upcoming.Goals as goal

pub pass-requires-clause-valid : goal.pass-requires-clause-valid
pass-requires-clause-valid c =
    let is = subst (λ (v : CoreView). IsCoreUpcoming v c.args.upcoming) (sym c.self.view_is) c.requires.upcoming in
    let near = subst (λ (v : CoreView). v.cycle < 2 ^ 41) (sym c.self.view_is) c.requires.next in
    valid-behind _ _ _ c.self.invariant.0 c.self.invariant.1 c.safe_states.ensures.later near c.args.upcoming is

pub invariant_of-self : goal.invariant_of-self
invariant_of-self c =
    let is = subst (λ (v : CoreView). IsCoreUpcoming v c.args.upcoming) (sym c.self.view_is) c.requires.upcoming in
    let near = subst (λ (v : CoreView). v.cycle < 2 ^ 41) (sym c.self.view_is) c.requires.next in
    rw c.take.ensures.after
    (core-behind _ _ _ c.self.invariant.0 c.self.invariant.1 c.safe_states.ensures.later near c.args.upcoming is _ _ _ c.pass.ensures.placed c.pass.ensures.since
    c.pass.ensures.ranking)

pub returns-clause-history : goal.returns-clause-history
returns-clause-history c =
    let is = subst (λ (v : CoreView). IsCoreUpcoming v c.args.upcoming) (sym c.self.view_is) c.requires.upcoming in
    let near = subst (λ (v : CoreView). v.cycle < 2 ^ 41) (sym c.self.view_is) c.requires.next in
    rw c.take.ensures.after
    (subst
    (λ (v : CoreView). (history : List Event) → IsStateOf history v
    → IsStateOf (history ++ Open c.self.inside.state.cycle c.args.upcoming.mask ∷ []) (record {
      rules = c.self.inside.rules;
      placed = c.pass.new.self.placed.items;
      cycle = c.args.upcoming.next.cycle;
      pending = c.args.upcoming.next.pending;
      learned = None;
      accepted = c.self.inside.accepted;
      forgets = c.self.inside.forgets;
    }))
    c.self.view_is
    (λ history of.
    subst (IsStateOf (history ++ Open c.self.inside.state.cycle c.args.upcoming.mask ∷ []))
    (sym
    (behind-is _ _ _ c.self.invariant.0 c.self.invariant.1 c.safe_states.ensures.later near c.args.upcoming is c.pass.new.self.placed.items c.pass.new.self.since
    c.pass.new.self.planner.ranking c.pass.ensures.placed c.pass.ensures.since c.pass.ensures.ranking))
    (state-opened _ history _ c.self.invariant.0 of c.args.upcoming.mask is.order.mask)))
