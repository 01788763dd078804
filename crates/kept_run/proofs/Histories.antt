-- Histories with more events.
use Rattle.std.proofs.Common.{◌≡◌, ◌+◌, Bool, true, false, List, [], ◌∷◌, ◌++◌, All, cond, refl, sym, ap, ◌∙◌, subst, append_assoc, add-zero}
use Rattle.std.proofs.lemmas.List.{append-nil}
use Rattle.std.proofs.lemmas.List.Elements.{All-head, All-tail}
use Rattle.requirement_table.specs.declared.entries.Placed.{Placed}
use Rattle.admission_rules.specs.declared.Rules.{Rules}
use Rattle.admission.specs.Verdict.{is_accepted}
use Rattle.master_core.specs.declared.event.Event.{Event}
use Rattle.master_core.specs.declared.event.Event.TheVariants.{Submit, Look, Open}
use Rattle.master_core.specs.History.{AllAfter, IsLegal, IsRight, is_changed, is_changed_after, is_open, next_of, placed_after, placed_of}
use Rattle.master_core.specs.Openings.{opening_of, openings_of}
pub use Rattle.master_core.proofs.Shared.{is_changed-push, legal-push, next_of-push, openings_of-push, placed_of-push}

pub AllAfter-parts : (holds : List Event → Event → Type 0) (before events later : List Event) → AllAfter holds before (events ++ later)
    → AllAfter holds before events × AllAfter holds (before ++ events) later
AllAfter-parts holds before [] later all = (tt, subst (λ h. AllAfter holds h later) (sym (append-nil before)) all)
AllAfter-parts holds before (x ∷ events) later all =
    let rest = AllAfter-parts holds (before ++ x ∷ []) events later all.1 in
    ((all.0, rest.0), subst (λ h. AllAfter holds h later) (append_assoc before (x ∷ []) events) rest.1)

pub legal-parts : (rules : Rules) (history later : List Event) → IsLegal rules (history ++ later) → IsLegal rules history × AllAfter (IsRight rules) history later
legal-parts rules history later legal = AllAfter-parts (IsRight rules) [] history later legal

pub legal-but_last : (rules : Rules) (history : List Event) (event : Event) → IsLegal rules (history ++ event ∷ []) → IsLegal rules history × IsRight rules history event
legal-but_last rules history event legal = let parts = legal-parts rules history (event ∷ []) legal in (parts.0, parts.1.0)

-- Events that open no cycle

opens-nothing : (history : List Event) (event : Event) → is_open event ≡ false → opening_of history event ≡ []
opens-nothing history (Submit caller change from verdict trail) none = refl
opens-nothing history (Look caller next) none = refl
opens-nothing history (Open cycle mask) none = absurd (cc)

pub openings_of-closed : (history : List Event) (event : Event) → is_open event ≡ false → openings_of (history ++ event ∷ []) ≡ openings_of history
openings_of-closed history event none =
    openings_of-push history event ∙ ap (λ l. openings_of history ++ l) (opens-nothing history event none) ∙ append-nil (openings_of history)

pub next_of-closed : (history : List Event) (event : Event) → is_open event ≡ false → next_of (history ++ event ∷ []) ≡ next_of history
next_of-closed history event none = next_of-push history event ∙ ap (λ b. next_of history + cond b 1 0) none ∙ add-zero (next_of history)

-- what is not changed after an event that opens no cycle was not changed before it, and the table is the same
pub record IsUnchanged (changed : Bool) (before after : List Placed) : Type 0 where
  pub was : changed ≡ false
  pub same : before ≡ after

unchanged-verdict : (changed : Bool) (placed new : List Placed) (verdict : Bool) → cond verdict true changed ≡ false
    → IsUnchanged changed placed (cond verdict new placed)
unchanged-verdict changed placed new true not_changed = absurd (cc)
unchanged-verdict changed placed new false not_changed = record { was = not_changed; same = refl }

unchanged-after : (changed : Bool) (placed : List Placed) (event : Event) → is_open event ≡ false → is_changed_after changed event ≡ false
    → IsUnchanged changed placed (placed_after placed event)
unchanged-after changed placed (Submit caller change from verdict trail) none not_changed = unchanged-verdict changed placed _ (is_accepted verdict) not_changed
unchanged-after changed placed (Look caller next) none not_changed = record { was = not_changed; same = refl }
unchanged-after changed placed (Open cycle mask) none not_changed = absurd (cc)

pub unchanged-closed : (history : List Event) (event : Event) → is_open event ≡ false → is_changed (history ++ event ∷ []) ≡ false
    → IsUnchanged (is_changed history) (placed_of history) (placed_of (history ++ event ∷ []))
unchanged-closed history event none not_changed =
    let now = unchanged-after (is_changed history) (placed_of history) event none (sym (is_changed-push history event) ∙ not_changed) in
    record { was = now.was; same = now.same ∙ sym (placed_of-push history event) }

-- what each event keeps that opens no cycle holds after a row of such events
module _ (rules : Rules) (Holds : List Event → Type 0)
    (step : (history : List Event) (event : Event) → is_open event ≡ false → IsLegal rules (history ++ event ∷ []) → Holds history → Holds (history ++ event ∷ [])) where
  pub after-closed : (history events : List Event) → All (λ event. is_open event ≡ false) events → IsLegal rules (history ++ events) → Holds history → Holds (history ++ events)
  after-closed history [] closed legal holds = subst Holds (sym (append-nil history)) holds
  after-closed history (event ∷ events) closed legal holds =
      let row : (history ++ event ∷ []) ++ events ≡ history ++ event ∷ events = append_assoc history (event ∷ []) events in
      let whole : IsLegal rules ((history ++ event ∷ []) ++ events) = subst (IsLegal rules) (sym row) legal in
      subst Holds row
      (after-closed (history ++ event ∷ []) events (All-tail (λ e. is_open e ≡ false) event events closed) whole
      (step history event (All-head (λ e. is_open e ≡ false) event events closed) (legal-parts rules (history ++ event ∷ []) events whole).0 holds))
