-- The entries that a lean master keeps are all placed entries of its history, without some that no later answer needs.
use Rattle.std.proofs.Common.{◌≡◌, ℕ, ◌+◌, ◌≤◌, Bool, true, false, cond, if◌then◌else◌, List, [], ◌∷◌, ◌++◌, fold, refl, sym, ap, ◌∙◌, append_assoc, arith}
use Rattle.std.proofs.lemmas.Grind.{common_steps}
use Rattle.std.proofs.lemmas.List.Sums.{fold-append, sum_by-cons}
use mathlib.Core.List.{IsPrefix}
use Rattle.requirement_table.specs.declared.entries.Placed.{Placed}
use Rattle.change_protocol.specs.declared.operations.Change.{Change}
use Rattle.change_protocol.specs.Applied.{applied}
use Rattle.change_protocol.specs.Pruned.{pruned}
use Rattle.change_protocol.proofs.Shared.{pruned-again}
use Rattle.admission_rules.specs.declared.Rules.{Rules}
use Rattle.admission.specs.declared.verdict.Verdict.{Verdict}
use Rattle.admission.specs.Verdict.{is_accepted}
use Rattle.master_core.specs.declared.event.Event.{Event}
use Rattle.master_core.specs.declared.event.Event.TheVariants.{Submit, Look, Open}
use Rattle.master_core.specs.Cores.{IsPrunedBefore}
use Rattle.master_core.specs.History.{AllAfter, IsLegal, IsRight, IsSince, accepted_of, accepts, next_of, placed_after, placed_of}
use Rattle.master_core.specs.Kept.{kept_after, kept_of}
use Rattle.master_core.proofs.Histories.{kept-along, placed_of-push}
use Rattle.master_core.proofs.Settling.{none-behind, since-now}

-- one event more
pub kept_of-push : (history : List Event) (event : Event) → kept_of (history ++ event ∷ []) ≡ kept_after (kept_of history) event
kept_of-push history event = fold-append kept_after [] history (event ∷ [])

-- Events among which no change was accepted

unchanged-kept : (kept : List Placed) (e : Event) → accepts e ≡ false → kept_after kept e ≡ kept
unchanged-kept kept e refused = grind arith

none-by : (b : Bool) (n : ℕ) → cond b 1 0 + n ≡ 0 → (b ≡ false) × (n ≡ 0)
none-by b n is = grind arith

none-in : (e : Event) (es : List Event) → accepted_of (e ∷ es) ≡ 0 → (accepts e ≡ false) × (accepted_of es ≡ 0)
none-in e es none = none-by (accepts e) (accepted_of es) (sym (sum_by-cons (λ (x : Event). cond (accepts x) 1 0) e es) ∙ none)

stays-kept : (kept : List Placed) (es : List Event) → accepted_of es ≡ 0 → fold kept_after kept es ≡ kept
stays-kept kept [] none = refl
stays-kept kept (e ∷ es) none =
    let parts = none-in e es none in
    ap (λ (l : List Placed). fold kept_after l es) (unchanged-kept kept e parts.0) ∙ stays-kept kept es parts.1

-- where no change was accepted behind a front of the history, the same entries are kept
pub kept-same : (front history : List Event) → IsPrefix front history → accepted_of front ≡ accepted_of history → kept_of front ≡ kept_of history
kept-same front history begins same = grind (arith, none-behind, fold-append, stays-kept)

-- What is kept is pruned

pub pruned-later : (cycle later : ℕ) (whole list : List Placed) → cycle ≤ later → IsPrunedBefore cycle whole list → IsPrunedBefore later whole list
pruned-later cycle later whole list after held = let early = held.early in record { by = held.by; early = omega arith; is = held.is }

-- an accepted change is applied to both lists, and the one that is kept is pruned by its cycle
pub pruned-applied : (from : ℕ) (whole list : List Placed) (change : Change) → IsPrunedBefore from whole list
    → IsPrunedBefore from (applied whole change) (pruned from (applied list change))
pruned-applied from whole list change held = record {
  by = from;
  early = omega arith;
  is = ap (λ (l : List Placed). pruned from (applied l change)) held.is ∙ pruned-again held.by from whole change held.early;
}

since-before : (before : List Event) (e : Event) (from : ℕ) → IsSince (before ++ e ∷ []) from → IsSince before from
since-before before e from h0 = grind (arith, append_assoc)

-- the kept entries are the placed ones, pruned by a cycle that is not above any one from which a change can be planned
abbrev AreKeptOf : List Event → Type 0
AreKeptOf history = (from : ℕ) → IsSince history from → IsPrunedBefore from (placed_of history) (kept_of history)

-- a refused change keeps both lists, and an accepted one changes both
kept-answer : (before : List Event) (change : Change) (f : ℕ) (verdict : Verdict) → AreKeptOf before → IsSince before f → f ≤ next_of before
    → (b : Bool) → (from : ℕ) → (b ≡ true → next_of before ≤ from) → IsSince before from
    → IsPrunedBefore from (if b then applied (placed_of before) change else placed_of before) (if b then pruned f (applied (kept_of before) change) else kept_of before)
kept-answer before change f verdict kept since opened true from ahead still =
    let later = ahead refl in
    pruned-later f from (applied (placed_of before) change) (pruned f (applied (kept_of before) change)) (omega arith)
    (pruned-applied f (placed_of before) (kept_of before) change (kept f since))
kept-answer before change f verdict kept since opened false from ahead still = kept from still

behind-event : (from : ℕ) (before : List Event) (event : Event) → IsPrunedBefore from (placed_after (placed_of before) event) (kept_after (kept_of before) event)
    → IsPrunedBefore from (placed_of (before ++ event ∷ [])) (kept_of (before ++ event ∷ []))
behind-event from before event held = grind (arith, placed_of-push, kept_of-push)

kept-step : (rules : Rules) (before : List Event) (event : Event) → AllAfter (IsRight rules) [] before → AreKeptOf before → IsRight rules before event
    → AreKeptOf (before ++ event ∷ [])
kept-step rules before (Submit caller change f verdict trail) was kept right from since =
    behind-event from before (Submit caller change f verdict trail)
    (kept-answer before change f verdict kept right.since right.opened (is_accepted verdict) from
    (λ accepted. since before [] (Submit caller change f verdict trail) refl accepted)
    (since-before before (Submit caller change f verdict trail) from since))
kept-step rules before (Look caller next) was kept right from since = grind (arith, common_steps, behind-event, since-before)
kept-step rules before (Open cycle mask) was kept right from since = grind (arith, common_steps, behind-event, since-before)

kept-none : AreKeptOf []
kept-none from since = record { by = 0; early = omega arith; is = refl }

pub kept-held : (rules : Rules) (history : List Event) → IsLegal rules history → (from : ℕ) → IsSince history from → IsPrunedBefore from (placed_of history) (kept_of history)
kept-held rules history legal = kept-along (IsRight rules) AreKeptOf (kept-step rules) [] history tt kept-none legal

pub kept-next : (rules : Rules) (history : List Event) → IsLegal rules history → IsPrunedBefore (next_of history) (placed_of history) (kept_of history)
kept-next rules history legal = kept-held rules history legal (next_of history) (since-now history)
