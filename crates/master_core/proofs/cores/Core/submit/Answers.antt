use Rattle.std.proofs.Common.{ℕ, [], ◌∷◌, ◌++◌, ap, subst, sym}
use Rattle.change_protocol.specs.Applied.{applied}
use Rattle.admission.specs.Verdict.{IsInTime, IsTakenWhereDue, plan_from}
use Rattle.master_core.specs.declared.answered.Answered.{Answered}
use Rattle.master_core.specs.declared.event.Event.{Event}
use Rattle.master_core.specs.Cores.{IsHeld, IsStateOf}
use Rattle.master_core.specs.History.{placed_of}
use Rattle.master_core.proofs.CorePlans.{submit-same}
use Rattle.master_core.proofs.cores.Core.submit.Goals as goal

pub returns-clause-complete : goal.returns-clause-complete
returns-clause-complete c =
    let core = c.args.self.now in
    subst
    (λ (a : Answered). IsInTime c.args.self.now.rules c.args.self.now.placed c.args.self.now.cycle c.args.change.now
    → IsTakenWhereDue c.args.self.now.rules
    (plan_from c.args.self.now.rules (applied c.args.self.now.placed c.args.change.now) c.args.self.now.cycle c.args.self.now.pending) a.verdict)
    (sym c.in_ok-answered.ensures.answered) c.in_ok-answer.ensures.complete

pub returns-clause-history : goal.returns-clause-history
returns-clause-history c history caller of =
    let held = subst (λ (n : ℕ). IsHeld c.args.self.now.forgets n (placed_of history) c.args.self.now.placed) (sym c.in_ok-answer.ensures.answered.from) of.held in
    subst (λ (e : Event). IsStateOf (history ++ e ∷ []) c.put_where_room.new.self)
    (submit-same caller _ _ _ _ _ _ _ _ c.in_ok-answer.ensures.change (sym (ap (λ (a : Answered). a.from) c.in_ok-answered.ensures.answered))
    (sym (ap (λ (a : Answered). a.verdict) c.in_ok-answered.ensures.answered)) (sym (ap (λ (a : Answered). a.trail) c.in_ok-answered.ensures.answered)))
    (c.in_ok-answered.ensures.history history caller of held (c.in_ok-answer.ensures.right c.args.self.now.forgets history of))
