-- Histories with one event more.
use Rattle.std.proofs.Common.{◌≡◌, ◌+◌, false, List, [], ◌∷◌, ◌++◌, cond, sym, ap, ◌∙◌, subst, append_assoc}
use Rattle.std.proofs.lemmas.List.{append-nil}
use Rattle.std.proofs.lemmas.List.Sums.{fold-append, sum_by_push}
use Rattle.admission_rules.specs.declared.Rules.{Rules}
use Rattle.master_core.specs.declared.event.Event.{Event}
use Rattle.master_core.specs.History.{AllAfter, IsLegal, IsPlainlyLegal, IsPlannedNow, IsRight, is_changed, is_changed_after, is_open, next_of, placed_after, placed_of}
use Rattle.master_core.specs.Openings.{opening_of, openings_after, openings_of}

pub AllAfter-push : (holds : List Event → Event → Type 0) (before events : List Event) (event : Event) → AllAfter holds before events
    → holds (before ++ events) event → AllAfter holds before (events ++ event ∷ [])
AllAfter-push holds before [] event all last = (subst (λ h. holds h event) (append-nil before) last, tt)
AllAfter-push holds before (x ∷ events) event all last = (
  all.0,
  AllAfter-push holds (before ++ x ∷ []) events event all.1 (subst (λ h. holds h event) (sym (append_assoc before (x ∷ []) events)) last),
)

pub legal-push : (rules : Rules) (history : List Event) (event : Event) → IsLegal rules history → IsRight rules history event
    → IsLegal rules (history ++ event ∷ [])
legal-push rules history event legal right = AllAfter-push (IsRight rules) [] history event legal right

pub plain-push : (rules : Rules) (history : List Event) (event : Event) → IsPlannedNow history event → IsLegal rules (history ++ event ∷ [])
    → IsPlainlyLegal rules history → IsPlainlyLegal rules (history ++ event ∷ [])
plain-push rules history event now legal plain = record {
  legal = legal;
  now = AllAfter-push IsPlannedNow [] history event plain.now now;
}

pub placed_of-push : (history : List Event) (event : Event) → placed_of (history ++ event ∷ []) ≡ placed_after (placed_of history) event
placed_of-push history event = fold-append placed_after [] history (event ∷ [])

pub is_changed-push : (history : List Event) (event : Event) → is_changed (history ++ event ∷ []) ≡ is_changed_after (is_changed history) event
is_changed-push history event = fold-append is_changed_after false history (event ∷ [])

pub next_of-push : (history : List Event) (event : Event) → next_of (history ++ event ∷ []) ≡ next_of history + cond (is_open event) 1 0
next_of-push history event = sum_by_push (λ e. cond (is_open e) 1 0) history event

pub openings_after-push : (before events : List Event) (event : Event)
    → openings_after before (events ++ event ∷ []) ≡ openings_after before events ++ opening_of (before ++ events) event
openings_after-push before [] event = append-nil (opening_of before event) ∙ ap (λ h. opening_of h event) (sym (append-nil before))
openings_after-push before (first ∷ events) event =
    ap (λ l. opening_of before first ++ l)
    (openings_after-push (before ++ first ∷ []) events event
    ∙ ap (λ h. openings_after (before ++ first ∷ []) events ++ opening_of h event) (append_assoc before (first ∷ []) events))
    ∙ sym (append_assoc (opening_of before first) (openings_after (before ++ first ∷ []) events) (opening_of (before ++ first ∷ events) event))

pub openings_of-push : (history : List Event) (event : Event) → openings_of (history ++ event ∷ []) ≡ openings_of history ++ opening_of history event
openings_of-push history event = openings_after-push [] history event

-- The events before the last one

pub AllAfter-but_last : (holds : List Event → Event → Type 0) (before events : List Event) (event : Event) → AllAfter holds before (events ++ event ∷ [])
    → AllAfter holds before events × holds (before ++ events) event
AllAfter-but_last holds before [] event all = (tt, subst (λ h. holds h event) (sym (append-nil before)) all.0)
AllAfter-but_last holds before (x ∷ events) event all =
    let rest = AllAfter-but_last holds (before ++ x ∷ []) events event all.1 in
    ((all.0, rest.0), subst (λ h. holds h event) (append_assoc before (x ∷ []) events) rest.1)

pub legal-but_last : (rules : Rules) (history : List Event) (event : Event) → IsLegal rules (history ++ event ∷ [])
    → IsLegal rules history × IsRight rules history event
legal-but_last rules history event legal = AllAfter-but_last (IsRight rules) [] history event legal

-- what each event keeps that is right at its place holds of every legal history
module _ (holds : List Event → Event → Type 0) (Kept : List Event → Type 0)
    (step : (before : List Event) (event : Event) → AllAfter holds [] before → Kept before → holds before event → Kept (before ++ event ∷ [])) where
  pub kept-along : (before events : List Event) → AllAfter holds [] before → Kept before → AllAfter holds before events → Kept (before ++ events)
  kept-along before [] was kept all = subst Kept (sym (append-nil before)) kept
  kept-along before (x ∷ events) was kept all =
      subst Kept (append_assoc before (x ∷ []) events)
      (kept-along (before ++ x ∷ []) events (AllAfter-push holds [] before x was all.0) (step before x was kept all.0) all.1)
