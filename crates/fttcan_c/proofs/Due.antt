-- A change that a master accepted is accepted by a standby that followed all before it, and takes effect at its start.
use Rattle.std.proofs.Common.{◌≡◌, ℕ, ◌≤◌, Bool, true, false, if◌then◌else◌, List, [], ◌∷◌, ◌++◌, refl, sym, ap, ◌∙◌, subst, append_assoc}
use Rattle.std.proofs.lemmas.List.{append-nil}
use Rattle.requirement_table.specs.declared.entries.Placed.{Placed}
use Rattle.requirement_table.specs.Table.{IsWellPlaced}
use Rattle.change_protocol.specs.Applied.{IsChangedAt, applied}
use Rattle.change_protocol.specs.declared.operations.Change.{Change}
use Rattle.planner_policies.specs.Plan.{pending_at}
use Rattle.admission_rules.specs.declared.Rules.{Rules}
use Rattle.admission.specs.Verdict.{IsRules, IsVerdict, is_accepted}
use Rattle.admission.specs.declared.verdict.Verdict.{Verdict}
use Rattle.admission.specs.declared.verdict.Verdict.TheVariants.{Malformed, Passed, Miss, Horizon, Accepted}
use Rattle.master_core.specs.declared.answered.Answered.{Answered}
use Rattle.master_core.specs.declared.event.Event.{Event}
use Rattle.master_core.specs.declared.event.Event.TheVariants.{Submit}
use Rattle.master_core.specs.Cores.{CoreView, IsCore, answered_by}
use Rattle.master_core.specs.History.{AllAfter, IsLegal, IsRight, IsRightAnswer, next_of, placed_of, plan_of}
use Rattle.standby.specs.Core.{core_of}
use Rattle.fttcan_c.specs.Following.{IsDue, IsInEffect}
use Rattle.fttcan_c.specs.Mastering.{IsCoreSubmitted}

-- what is known of histories: a change that was accepted is accepted anew, and what is worked out of one core is the same
pub record Histories : Type 0 where
  pub anew : (rules : Rules) (history : List Event) (change : Change) (from : ℕ) (verdict anew : Verdict) (trail : List ℕ) → IsRules rules
      → IsLegal rules history → IsRightAnswer rules history change from verdict trail → is_accepted verdict ≡ true
      → IsVerdict rules (placed_of history) (pending_at (plan_of rules (placed_of history)) (next_of history)) (next_of history) (next_of history) change anew
      → is_accepted anew ≡ true
  pub placed : (one other : List Event) → core_of one ≡ core_of other → placed_of one ≡ placed_of other
  pub next : (one other : List Event) → core_of one ≡ core_of other → next_of one ≡ next_of other

-- the last one of some events is right behind those before it
last-right : (rules : Rules) (before events : List Event) (event : Event) → AllAfter (IsRight rules) before (events ++ event ∷ []) → IsRight rules (before ++ events) event
last-right rules before [] event all = subst (λ (h : List Event). IsRight rules h event) (sym (append-nil before)) all.0
last-right rules before (first ∷ events) event all =
    subst (λ (h : List Event). IsRight rules h event) (append_assoc before (first ∷ []) events)
    (last-right rules (before ++ first ∷ []) events event all.1)

same-rules : (b : Bool) (other core : CoreView) → other.rules ≡ core.rules → (if b then other else core).rules ≡ core.rules
same-rules true other core same = same
same-rules false other core same = refl

pub accepted_where_due : Histories → (caller : ℕ) (change : Change) (old new : CoreView) (answered : Answered) → IsCore old
    → IsCoreSubmitted caller change old new answered → IsDue change old → is_accepted answered.verdict ≡ true
accepted_where_due histories caller change old new answered known submitted due =
    let rules = old.rules in
    let event : Event = Submit caller change answered.from answered.verdict answered.trail in
    let later = submitted.history due.own due.state in
    let same : new.rules ≡ rules = ap (λ (c : CoreView). c.rules) submitted.after ∙ same-rules (is_accepted answered.verdict) _ old refl in
    let legal : IsLegal rules (due.own ++ event ∷ []) = subst (λ (r : Rules). IsLegal r (due.own ++ event ∷ [])) same later.legal in
    let right : IsRightAnswer rules due.own change answered.from answered.verdict answered.trail = last-right rules [] due.own event legal in
    let now : answered.from ≡ next_of due.own = submitted.answer.from ∙ due.state.next in
    let own = subst
    (λ (n : ℕ). IsVerdict rules (placed_of due.own) (pending_at (plan_of rules (placed_of due.own)) n) n (next_of due.own) change answered.verdict)
    now right.answer in
    let by_next = subst
    (λ (n : ℕ). IsVerdict rules (placed_of due.own) (pending_at (plan_of rules (placed_of due.own)) n) n n change answered.verdict)
    (sym (histories.next due.whole due.own due.same_core)) own in
    let by_list = subst
    (λ (l : List Placed). IsVerdict rules l (pending_at (plan_of rules l) (next_of due.whole)) (next_of due.whole) (next_of due.whole) change answered.verdict)
    (sym (histories.placed due.whole due.own due.same_core)) by_next in
    histories.anew rules due.whole change due.from due.verdict answered.verdict due.trail known.safe.in_range due.legal due.right due.accepted by_list

ahead-of : (rules : Rules) (placed : List Placed) (pending from next : ℕ) (change : Change) (verdict : Verdict)
    → IsVerdict rules placed pending from next change verdict → is_accepted verdict ≡ true → next ≤ change.start
ahead-of rules placed pending from next change (Malformed op why) is accepted = absurd (cc)
ahead-of rules placed pending from next change (Passed start opened) is accepted = absurd (cc)
ahead-of rules placed pending from next change (Miss slot release cycle) is accepted = absurd (cc)
ahead-of rules placed pending from next change (Horizon first walked) is accepted = absurd (cc)
ahead-of rules placed pending from next change (Accepted first length) is accepted = is.0.ahead

pub in_effect : ((placed : List Placed) (change : Change) → IsWellPlaced placed → IsChangedAt change.start placed (applied placed change))
    → (caller : ℕ) (change : Change) (old new : CoreView) (answered : Answered) → IsCore old
    → IsCoreSubmitted caller change old new answered → is_accepted answered.verdict ≡ true → IsInEffect change old
in_effect changes caller change old new answered known submitted accepted = record {
  ahead = ahead-of old.rules old.placed old.pending old.cycle old.cycle change answered.verdict submitted.answer.verdict accepted;
  changed = changes old.placed change known.safe.safe.well_placed;
}
