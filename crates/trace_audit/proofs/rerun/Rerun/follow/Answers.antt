use Rattle.std.proofs.Common.{◌≡◌, true, false, sym, subst}
use Rattle.std.specs.Prelude.{IfOk}
use Rattle.std.proofs.lemmas.Result.{IfOk-weaker}
use Rattle.master_core.specs.declared.event.Event.{Event}
use Rattle.master_core.specs.History.{IsRight}
use Rattle.log_reader.specs.Row.{opened_row}
use Rattle.log_reader.specs.declared.row.LogRow.{LogRow}
use Rattle.log_reader.specs.declared.row.LogVerdict.TheVariants as told
use Rattle.log_reader.specs.declared.row.OpenRow.{OpenRow}
use Rattle.trace_audit.specs.Again.{Asks, IsRerunBroughtOn}
use Rattle.trace_audit.proofs.rerun.Rerun.follow.Goals as goal

pub returns-in-Submit-clause-on : goal.returns-in-Submit-clause-on
returns-in-Submit-clause-on c = λ system requests trace again.
    subst (λ (l : LogRow). IfOk c.follow_change.result (λ followed. followed ≡ true
    → IsRerunBroughtOn system c.args.steps.now requests trace c.args.self.now l c.follow_change.new.self))
    (sym c.in-Submit.is) (c.follow_change.ensures.on system requests trace _ again)

pub returns-in-Look-clause-on : goal.returns-in-Look-clause-on
returns-in-Look-clause-on c = λ system requests trace again.
    subst (λ (l : LogRow). IfOk c.follow_look.result (λ followed. followed ≡ true
    → IsRerunBroughtOn system c.args.steps.now requests trace c.args.self.now l c.follow_look.new.self))
    (sym c.in-Look.is) (c.follow_look.ensures.on system requests trace _ again)

pub returns-in-Open-clause-on : goal.returns-in-Open-clause-on
returns-in-Open-clause-on c = λ system requests trace again.
    subst (λ (l : LogRow). IfOk c.follow_opening.result (λ followed. followed ≡ true
    → IsRerunBroughtOn system c.args.steps.now requests trace c.args.self.now l c.follow_opening.new.self))
    (sym c.in-Open.is) (c.follow_opening.ensures.on system requests trace _ again)

pub returns-in-Submit-clause-none : goal.returns-in-Submit-clause-none
returns-in-Submit-clause-none c =
    let old = c.args.self.now.master in
    subst (λ (l : LogRow). IfOk c.follow_change.result (λ followed. followed ≡ false → ((event : Event)
    → IsRight old.rules old.history event → Asks c.args.steps.now old.history l event → ⊥)))
    (sym c.in-Submit.is) (IfOk-weaker c.follow_change.result _ _ (λ followed none is. none is (told.Passed 0 0)) c.follow_change.ensures.none)

pub returns-in-Look-clause-none : goal.returns-in-Look-clause-none
returns-in-Look-clause-none c =
    let old = c.args.self.now.master in
    subst (λ (l : LogRow). IfOk c.follow_look.result (λ followed. followed ≡ false → ((event : Event)
    → IsRight old.rules old.history event → Asks c.args.steps.now old.history l event → ⊥)))
    (sym c.in-Look.is) (IfOk-weaker c.follow_look.result _ _ (λ followed none is. none is 0) c.follow_look.ensures.none)

-- what holds of the row of each opened cycle holds of a row that is one of these
of-opening : (P : LogRow → Type 0) (line : LogRow) (opened : OpenRow) → line ≡ opened_row opened
    → ((any : OpenRow) → P (opened_row any)) → P line
of-opening P line opened is each = subst P (sym is) (each opened)

pub returns-in-Open-clause-none : goal.returns-in-Open-clause-none
returns-in-Open-clause-none c =
    let old = c.args.self.now.master in
    IfOk-weaker c.follow_opening.result _ _
    (λ followed none is. of-opening (λ (l : LogRow). (event : Event) → IsRight old.rules old.history event
    → Asks c.args.steps.now old.history l event → ⊥) c.args.line.now _ c.in-Open.is (none is)) c.follow_opening.ensures.none
