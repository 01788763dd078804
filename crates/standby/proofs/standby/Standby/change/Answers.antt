use Rattle.std.proofs.Common.{◌≡◌, ◌∙◌, false, true, subst, arith}
use Rattle.std.proofs.lemmas.Grind.{common_steps}
use Rattle.admission.specs.Verdict.{IsRules, is_accepted}
use Rattle.admission_rules.specs.declared.Rules.{Rules}
use Rattle.master_core.specs.History.{IsLegal}
use Rattle.standby.specs.Following.{IsChanged, IsOwnVerdict, StandbyView}
use Rattle.standby.proofs.Followed.{followed-change, none-refused}
use Rattle.standby.proofs.standby.Standby.change.Goals as goal

pub returns-then-not-is_accepted-clause-due : goal.returns-then-not-is_accepted-clause-due
returns-then-not-is_accepted-clause-due c history from verdict trail core legal right accepted =
    let is = subst (λ (v : StandbyView). IsOwnVerdict v c.args.change.now c.in_ok-verdict.verdict) c.self.view_is c.in_ok-verdict.ensures.verdict in
    let ranges = subst (λ (v : StandbyView). IsRules v.rules) c.self.view_is c.self.invariant.0.ranges in
    let refused : is_accepted c.in_ok-verdict.verdict ≡ false = grind (arith, common_steps) in
    absurd
    (none-refused (record { accepted = c.accepted_anew.ensures.accepted }) c.args.self.now.rules c.args.self.now.history history c.args.change.now from verdict
    c.in_ok-verdict.verdict trail ranges core legal right accepted is refused)

pub invariant_of-self-2 : goal.invariant_of-self-2
invariant_of-self-2 c =
    let accepted : is_accepted c.in_ok-verdict.verdict ≡ true = grind (arith, common_steps) in
    let legal = subst (λ (r : Rules). IsLegal r c.accept.new.self.history) c.in_ok-verdict.ensures.rules c.in_ok-verdict.ensures.legal in
    let followed = followed-change c.self.inside.master.rules c.self.inside.master.history c.args.caller c.args.change.now c.in_ok-verdict.verdict
    c.accept.new.self.history c.self.invariant.0 (c.in_ok-verdict.ensures.event accepted) legal accepted in
    (rw c.in_ok-verdict.ensures.rules followed.standby, c.in_ok-verdict.ensures.keeps ∙ c.self.invariant.1)

pub returns-clause-event : goal.returns-clause-event
returns-clause-event c =
    let accepted : is_accepted c.in_ok-verdict.verdict ≡ true = grind (arith, common_steps) in
    let legal = subst (λ (r : Rules). IsLegal r c.accept.new.self.history) c.in_ok-verdict.ensures.rules c.in_ok-verdict.ensures.legal in
    let followed = followed-change c.self.inside.master.rules c.self.inside.master.history c.args.caller c.args.change.now c.in_ok-verdict.verdict
    c.accept.new.self.history c.self.invariant.0 (c.in_ok-verdict.ensures.event accepted) legal accepted in
    subst (λ (v : StandbyView). IsChanged v c.args.caller c.args.change.now c.accept.new.self.history) c.self.view_is followed.change_is

pub returns-clause-plain : goal.returns-clause-plain
returns-clause-plain c = (invariant_of-self-2 c).0.plain
