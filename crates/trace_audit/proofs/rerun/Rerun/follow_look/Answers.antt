use Rattle.std.proofs.Common.{◌≡◌, ◌++◌, ◌∷◌, [], ap, ◌∙◌, sym, subst, refl, None, Some}
use Rattle.std.specs.Prelude.{is_some}
use Rattle.change_protocol.specs.declared.operations.Act.TheVariants as act
use Rattle.master_core.specs.History.{next_of}
use Rattle.master_core.specs.declared.event.Event.TheVariants.{Look}
use Rattle.log_reader.specs.declared.row.LogRow.TheVariants as row
use Rattle.trace_audit.specs.Ahead.{AreStepsAhead, act_in}
use Rattle.trace_audit.specs.Reading.{IsNextAct}
use Rattle.trace_audit.proofs.Bringing.{called-on}
use Rattle.trace_audit.proofs.Events.{no-look}
use Rattle.trace_audit.proofs.rerun.Rerun.follow_look.Goals as goal

pub returns-in_ok-look-in-Some-Look-clause-on : goal.returns-in_ok-look-in-Some-Look-clause-on
returns-in_ok-look-in-Some-Look-clause-on c = λ system requests trace next again yes.
    let old = c.args.self.now in
    let new = c.look.new.self in
    let event = Look c.args.caller (next_of old.master.history) in
    let found : act_in c.args.caller c.args.steps.now c.take-place.result ≡ Some act.Look =
    sym c.in-Some-Look.ensures.act ∙ ap Some c.in-Some-Look.field-0-is in
    let taken : IsNextAct c.args.steps.now old.master.history c.args.caller act.Look =
    sym (c.take-place.ensures.act old.master.history c.requires.ahead) ∙ found in
    let ahead = c.take-place.ensures.ahead old.master.history event c.requires.ahead (ap is_some found) (λ caller. refl) in
    called-on system c.args.steps.now requests trace old new (row.Look c.args.caller next) again
    (record { under_way = c.calls_between.ensures.under_way; ready = c.calls_between.ensures.ready })
    event refl tt (refl, taken) c.look.ensures.rules c.look.ensures.keeps c.look.ensures.nodes c.in_ok-look-in-Some-Look.ensures.event c.look.ensures.legal
    c.in_ok-look-in-Some-Look.ensures.states
    (subst (AreStepsAhead c.args.steps.now (old.master.history ++ event ∷ [])) (sym c.look.ensures.ahead) ahead)

pub returns-in-Some-Ask-clause-none : goal.returns-in-Some-Ask-clause-none
returns-in-Some-Ask-clause-none c = λ is.
    let old = c.args.self.now in
    no-look old.master.rules c.args.steps.now old.master.history c.args.caller (Some (act.Ask c.in-Some-Ask.field-0-0))
    (ap Some (sym c.in-Some-Ask.field-0-is) ∙ c.in-Some-Ask.ensures.act ∙ c.take-place.ensures.act old.master.history c.requires.ahead)
    refl

pub returns-in-None-clause-none : goal.returns-in-None-clause-none
returns-in-None-clause-none c = λ is.
    let old = c.args.self.now in
    no-look old.master.rules c.args.steps.now old.master.history c.args.caller None
    (c.in-None.ensures.act ∙ c.take-place.ensures.act old.master.history c.requires.ahead) refl
