use Rattle.std.proofs.Common.{◌≡◌, ◌++◌, ◌∷◌, [], refl, sym, ap, ◌∙◌, subst}
use Rattle.master_core.specs.declared.event.Event.TheVariants.{Look}
use Rattle.trace_audit.specs.States.{KeepsStates}
use Rattle.trace_audit.proofs.Settling.{keeps-closed}
use Rattle.trace_audit.proofs.rerun.Rerun.look.Goals as goal

pub returns-clause-states : goal.returns-clause-states
returns-clause-states c =
    let rules = c.args.self.now.master.rules in
    let states = c.args.self.now.states in
    let call = Look c.args.caller c.look.result in
    let placed = c.args.self.now.master.placed in
    let kept = keeps-closed rules c.args.self.now.master.history call placed states refl refl c.requires.states in
    let history : c.look.new.self.history ≡ c.args.self.now.master.history ++ call ∷ [] =
    c.look.ensures.event ∙ ap (λ h. h ++ call ∷ []) c.in_ok-reserve.ensures.history in
    subst (λ p. KeepsStates c.look.new.self.rules c.look.new.self.history p states)
    (sym (c.look.ensures.placed ∙ c.in_ok-reserve.ensures.placed))
    (subst (λ h. KeepsStates c.look.new.self.rules h placed states) (sym history)
    (subst (λ r. KeepsStates r (c.args.self.now.master.history ++ call ∷ []) placed states)
    (sym (c.look.ensures.rules ∙ c.in_ok-reserve.ensures.rules)) kept))
