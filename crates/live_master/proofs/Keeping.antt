-- The entries that the master behind the turn keeps, and changes that are planned from them.
use Rattle.std.proofs.Common.{◌≡◌, ◌≤◌, ℕ, ◌==◌, Bool, true, false, cond, ◌++◌, ◌∷◌, [], List, Some, Result, Ok, Err, IfOk, OnErr, arith, refl, sym, ap, ◌∙◌, subst}
use mathlib.Core.List.{IsPrefix}
use Rattle.turn_lock.specs.declared.view.View.{View}
use Rattle.turn_lock.specs.Passes.{Known}
use Rattle.turn_lock.proofs.Shared.{prefix_trans}
use Rattle.requirement_table.specs.declared.entries.Placed.{Placed}
use Rattle.change_protocol.specs.declared.operations.Change.{Change}
use Rattle.admission.specs.declared.verdict.Verdict.{Verdict}
use Rattle.admission_rules.specs.declared.Rules.{Rules}
use Rattle.master_core.proofs.Shared.{kept-next, kept-same, kept_of-push, none-behind, same-placed}
use Rattle.master_core.specs.declared.apart.Snapshot.{Snapshot}
use Rattle.master_core.specs.declared.event.Event.{Event}
use Rattle.master_core.specs.declared.event.Event.TheVariants.{Submit}
use Rattle.master_core.specs.Apart.{PlannedView}
use Rattle.master_core.specs.CorePlans.{CorePlannedView}
use Rattle.master_core.specs.Cores.{IsPrunedBefore}
use Rattle.master_core.specs.History.{AllAfter, IsLegal, IsRight, accepted_of, next_of, placed_of}
use Rattle.master_core.specs.Journals.{LeanView}
use Rattle.master_core.specs.Kept.{CanSettleKept, kept_after, kept_behind, kept_of, state_after}
use Rattle.live_master.specs.Calls.{IsPlannedIn, IsTurnRefused}
use Rattle.live_master.specs.Kept.{IsKeptPlanIn}
use Rattle.live_master.specs.Callers.{number_of, operator_number}

-- What is kept behind one event more

pub kept-more : (old new : LeanView) (event : Event) → old.placed ≡ kept_of old.history → new.history ≡ old.history ++ event ∷ []
    → new.placed ≡ kept_after old.placed event → new.placed ≡ kept_of new.history
kept-more old new event kept more is =
    is ∙ (ap (λ (l : List Placed). kept_after l event) kept
    ∙ (sym (kept_of-push old.history event) ∙ ap kept_of (sym more)))

-- and where nothing was added
pub kept-still : (old new : LeanView) → old.placed ≡ kept_of old.history → new.history ≡ old.history → new.placed ≡ old.placed
    → new.placed ≡ kept_of new.history
kept-still old new kept same is = is ∙ (kept ∙ ap kept_of (sym same))

-- so it is once a change was answered, or was not
pub kept-settled : {E : Type 0} (result : Result Verdict E) (old new : LeanView) (caller from : ℕ) (change : Change) → old.placed ≡ kept_of old.history
    → IfOk result (λ verdict. (trail : List ℕ) × (new.history ≡ old.history ++ Submit caller change from verdict trail ∷ []))
    → IfOk result (λ verdict. new.placed ≡ kept_behind old.placed from change verdict)
    → OnErr result (new.history ≡ old.history) → OnErr result (new.placed ≡ old.placed) → new.placed ≡ kept_of new.history
kept-settled (Ok verdict) old new caller from change kept event placed same still =
    kept-more old new (Submit caller change from verdict event.0) kept event.1 placed
kept-settled (Err fault) old new caller from change kept event placed same still = kept-still old new kept same still

-- an operator may make its changes
operator-by : (caller : ℕ) (b : Bool) → (caller == 0) ≡ b → 1 ≤ caller → cond b 9 caller ≡ caller
operator-by caller true is some = let none : caller ≡ 0 = grind arith in absurd (omega arith)
operator-by caller false is some = refl

operator-is : (caller : ℕ) → 1 ≤ caller → operator_number caller ≡ caller
operator-is caller some = operator-by caller (caller == 0) refl some

-- the history has one event more, which the pass may make
pub one-more : (v : View Event Rules) (before after found : List Event) (caller from : ℕ) (change : Change) (verdict : Verdict) (trail : List ℕ)
    → v.found ≡ Some found → before ≡ found → after ≡ before ++ Submit caller change from verdict trail ∷ [] → v.number ≡ caller → 1 ≤ caller
    → (event : Event) × ((list : List Event) × (v.found ≡ Some list) × (after ≡ list ++ event ∷ []) × (number_of event ≡ v.number))
one-more v before after found caller from change verdict trail here same more number some = (
  Submit caller change from verdict trail,
  (
    found,
    here,
    more ∙ ap (λ (l : List Event). l ++ Submit caller change from verdict trail ∷ []) same,
    operator-is caller some ∙ sym number,
  ),
)

-- What is kept where no change was accepted behind the front of a history

legal-after : (rules : Rules) (before front back : List Event) → AllAfter (IsRight rules) before (front ++ back) → AllAfter (IsRight rules) before front
legal-after rules before [] back all = tt
legal-after rules before (event ∷ front) back all = (all.0, legal-after rules (before ++ event ∷ []) front back all.1)

legal-front : (rules : Rules) (front seen : List Event) → IsPrefix front seen → IsLegal rules seen → IsLegal rules front
legal-front rules front seen begins legal =
    legal-after rules [] front begins.0 (subst (λ (l : List Event). IsLegal rules l) (sym begins.1) legal)

-- it is what was needed there
kept-front : (rules : Rules) (front seen found : List Event) → IsLegal rules seen → IsPrefix front seen → IsPrefix seen found
    → accepted_of front ≡ accepted_of found → IsPrunedBefore (next_of front) (placed_of front) (kept_of found)
kept-front rules front seen found legal begins later same =
    subst (λ (l : List Placed). IsPrunedBefore (next_of front) (placed_of front) l)
    (kept-same front found (prefix_trans front seen found begins later) same)
    (kept-next rules front (legal-front rules front seen begins legal))

-- Changes that are planned from all placed entries

-- a history behind whose front no change was accepted has the placed entries of the front
placed-front : (front history : List Event) → IsPrefix front history → accepted_of front ≡ accepted_of history → placed_of front ≡ placed_of history
placed-front front history begins same =
    let none = none-behind front begins.0 (same ∙ ap accepted_of (sym begins.1)) in
    sym (same-placed front begins.0 none) ∙ ap placed_of begins.1

pub held-at : (rules : Rules) (seen found : List Event) (change : Change) (planned : PlannedView) (placed : List Placed)
    → IsPlannedIn rules seen change planned → IsLegal rules seen → IsPrefix seen found → placed ≡ kept_of found
    → planned.accepted ≡ accepted_of found → IsPrunedBefore planned.from (placed_of found) placed
held-at rules seen found change planned placed here legal later kept same =
    let count : accepted_of here.front ≡ accepted_of found = sym here.plan.accepted ∙ same in
    let at = kept-front rules here.front seen found legal here.begins later count in
    let whole = subst (λ (l : List Placed). IsPrunedBefore (next_of here.front) l (kept_of found))
    (placed-front here.front found (prefix_trans here.front seen found here.begins later) count) at in
    subst (λ (n : ℕ). IsPrunedBefore n (placed_of found) placed) (sym here.plan.from)
    (subst (λ (l : List Placed). IsPrunedBefore (next_of here.front) (placed_of found) l) (sym kept) whole)

-- Changes that are planned from the kept entries

-- what was planned from a snapshot of what was seen can be settled where the turn is got
pub can-settle-kept : (master : LeanView) (rules : Rules) (seen : List Event) (planned : CorePlannedView) → IsKeptPlanIn rules seen planned
    → IsLegal rules seen → master.rules ≡ rules → IsPrefix seen master.history → master.placed ≡ kept_of master.history → CanSettleKept master planned
can-settle-kept master rules seen planned here legal same_rules later kept = record {
  rules = ap (λ (s : Snapshot). s.rules) here.is ∙ sym same_rules;
  place = λ same.
      let begins = prefix_trans here.front seen master.history here.begins later in
      let count : accepted_of here.front ≡ accepted_of master.history = sym (ap (λ (s : Snapshot). s.accepted) here.is) ∙ same in
      record {
        front = here.front;
        begins = begins;
        count = count;
        same = ap (λ (s : Snapshot). s.placed) here.is ∙ (kept-same here.front master.history begins count ∙ sym kept);
        held = subst (λ (l : List Placed). IsPrunedBefore (next_of here.front) (placed_of here.front) l) (sym kept)
            (kept-front rules here.front seen master.history legal here.begins later count);
        state = ap (λ (s : Snapshot). s.state) here.is ∙ ap (λ (r : Rules). state_after r here.front) (sym same_rules);
      };
}

-- it can be settled still, once the turn was refused and the plan was handed back
pub still-kept : (rules : Rules) (old new : Known Event Rules) (plan back : CorePlannedView) (word : ℕ)
    → IsKeptPlanIn rules old.view.seen plan → IsTurnRefused old new word → back ≡ plan → IsKeptPlanIn rules new.view.seen back
still-kept rules old new plan back word planned refusal same =
    subst (λ (p : CorePlannedView). IsKeptPlanIn rules new.view.seen p) (sym same)
    (subst (λ (l : List Event). IsKeptPlanIn rules l plan) (sym (ap (λ (k : Known Event Rules). k.view.seen) refusal.is)) planned)
