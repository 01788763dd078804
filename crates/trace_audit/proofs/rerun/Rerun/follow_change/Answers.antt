use Rattle.std.proofs.Common.{◌≡◌, ◌++◌, ◌∷◌, ◌<◌, ◌^◌, ℕ, [], List, true, ap, ◌∙◌, sym, subst, refl, None, Some, arith}
use Rattle.std.specs.Prelude.{is_some}
use Rattle.std.proofs.lemmas.Result.{IfOk-weaker}
use Rattle.change_protocol.specs.declared.operations.Act.TheVariants as act
use Rattle.admission.specs.declared.verdict.Verdict.{Verdict}
use Rattle.master_core.specs.History.{IsLegal}
use Rattle.master_core.specs.declared.event.Event.TheVariants.{Submit}
use Rattle.log_reader.specs.declared.row.LogRow.TheVariants as row
use Rattle.trace_audit.specs.Again.{IsRerunBroughtOn}
use Rattle.trace_audit.specs.Ahead.{AreStepsAhead, act_in}
use Rattle.trace_audit.specs.Reading.{IsNextAct}
use Rattle.trace_audit.specs.States.{KeepsStates}
use Rattle.trace_audit.proofs.Bringing.{called-on, ok-three}
use Rattle.trace_audit.proofs.Events.{no-ask, no-change}
use Rattle.trace_audit.proofs.Standing.{legal-front}
use Rattle.trace_audit.proofs.rerun.Rerun.follow_change.Goals as goal

pub returns-in-Some-Ask-clause-on : goal.returns-in-Some-Ask-clause-on
returns-in-Some-Ask-clause-on c = λ system requests trace told again.
    let old = c.args.self.now in
    let new = c.ask.new.self in
    let history = old.master.history in
    let change = c.in-Some-Ask.change in
    let found : act_in c.args.caller c.args.steps.now c.take-place.result ≡ Some (act.Ask change) =
    sym c.in-Some-Ask.ensures.act ∙ ap Some c.in-Some-Ask.field-0-is in
    let next : IsNextAct c.args.steps.now history c.args.caller (act.Ask change) =
    sym (c.take-place.ensures.act history c.requires.ahead) ∙ found in
    ok-three (λ asked. asked ≡ true → IsLegal new.master.rules new.master.history)
    (λ asked. asked ≡ true → (verdict : Verdict) × (trail : List ℕ)
    × (new.master.history ≡ history ++ Submit c.args.caller change c.args.from verdict trail ∷ []))
    (λ asked. asked ≡ true → KeepsStates new.master.rules new.master.history new.master.placed new.states)
    (λ followed. followed ≡ true → IsRerunBroughtOn system c.args.steps.now requests trace old (row.Submit c.args.caller c.args.from told) new)
    (λ asked legal event states yes.
    let (verdict, trail, is) = event yes in
    let submit = Submit c.args.caller change c.args.from verdict trail in
    let ahead = c.take-place.ensures.ahead history submit c.requires.ahead (ap is_some found) (λ caller. refl) in
    let right = (legal-front new.master.rules history submit (subst (IsLegal new.master.rules) is (legal yes))).1 in
    let early = right.opened in
    let few = c.requires.few in
    let cycles = c.requires.steps.cycles in
    let near : c.args.from < 2 ^ 63 = omega (arith, early, few, cycles) in
    called-on system c.args.steps.now requests trace old new (row.Submit c.args.caller c.args.from told) again
    (record { under_way = c.calls_between.ensures.under_way; ready = c.calls_between.ensures.ready })
    submit refl near (refl, refl, next) c.ask.ensures.rules c.ask.ensures.keeps c.ask.ensures.nodes is (legal yes) (states yes)
    (subst (AreStepsAhead c.args.steps.now (history ++ submit ∷ [])) (sym c.ask.ensures.ahead) ahead))
    c.ask.result c.ask.ensures.legal c.ask.ensures.event c.ask.ensures.states

pub returns-in-Some-Ask-clause-none : goal.returns-in-Some-Ask-clause-none
returns-in-Some-Ask-clause-none c =
    let old = c.args.self.now in
    let change = c.in-Some-Ask.change in
    let found : act_in c.args.caller c.args.steps.now c.take-place.result ≡ Some (act.Ask change) =
    sym c.in-Some-Ask.ensures.act ∙ ap Some c.in-Some-Ask.field-0-is in
    let next : IsNextAct c.args.steps.now old.master.history c.args.caller (act.Ask change) =
    sym (c.take-place.ensures.act old.master.history c.requires.ahead) ∙ found in
    IfOk-weaker c.ask.result _ _ (λ asked none is.
    no-change old.master.rules c.args.steps.now old.master.history c.args.caller c.args.from change next (none is))
    c.ask.ensures.none

pub returns-in-Some-Look-clause-none : goal.returns-in-Some-Look-clause-none
returns-in-Some-Look-clause-none c = λ is.
    let old = c.args.self.now in
    no-ask old.master.rules c.args.steps.now old.master.history c.args.caller (Some act.Look)
    (ap Some (sym c.in-Some-Look.field-0-is) ∙ c.in-Some-Look.ensures.act ∙ c.take-place.ensures.act old.master.history c.requires.ahead)
    refl c.args.from

pub returns-in-None-clause-none : goal.returns-in-None-clause-none
returns-in-None-clause-none c = λ is.
    let old = c.args.self.now in
    no-ask old.master.rules c.args.steps.now old.master.history c.args.caller None
    (c.in-None.ensures.act ∙ c.take-place.ensures.act old.master.history c.requires.ahead) refl c.args.from
