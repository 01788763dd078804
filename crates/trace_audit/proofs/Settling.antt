-- The states of a plan from which a change can be planned, as a history goes on; and the change that is planned from one.
use Rattle.std.proofs.Common.{◌≡◌, ◌+◌, ◌-◌, ◌≤◌, ◌⊎◌, ◌++◌, ℕ, zero, suc, false, true, List, [], ◌∷◌, Some, cond, eqb, length, refl, sym, ap, ◌∙◌, subst, arith, inl, inr, append_assoc, append-nil, add-zero}
use Rattle.std.specs.Prelude.{slice_get}
use Rattle.std.proofs.lemmas.Bool.{cases_Bool, cond-false, cond-true, eq-eqb}
use Rattle.std.proofs.lemmas.List.{length-append}
use Rattle.std.proofs.lemmas.List.Sums.{fold-append, sum_by-append, sum_by_push}
use Rattle.requirement_table.specs.declared.entries.Placed.{Placed}
use Rattle.change_protocol.specs.Applied.{applied}
use Rattle.change_protocol.specs.Pruned.{pruned}
use Rattle.change_protocol.specs.declared.operations.Change.{Change}
use Rattle.planner_policies.specs.Plan.{IsValid}
use Rattle.planner_policies.specs.declared.state.PlanState.{PlanState}
use Rattle.admission_rules.specs.declared.Rules.{Rules}
use Rattle.admission.specs.Verdict.{is_accepted}
use Rattle.admission.specs.declared.verdict.Verdict.{Verdict}
use Rattle.master_core.specs.CorePlans.{CorePlannedView, IsCorePlan}
use Rattle.master_core.specs.Cores.{IsPrunedBefore}
use Rattle.master_core.specs.declared.event.Event.{Event}
use Rattle.master_core.specs.declared.event.Event.TheVariants.{Submit, Look, Open}
use Rattle.master_core.specs.History.{IsRightAnswer, IsSince, accepted_of, accepts, is_open, next_of, placed_after, placed_of}
use Rattle.master_core.specs.Journals.{LeanView}
use Rattle.master_core.specs.Kept.{CanSettleKept, kept_behind, kept_from, kept_snapshot, state_after}
use Rattle.kept_run.proofs.Shared.{next_of-push}
use Rattle.trace_audit.specs.States.{IsStateAt, KeepsStates}
use Rattle.trace_audit.specs.declared.states.States.{States}

-- Lists

module _ {A : Type 0} where
  no-end : (front : List A) (x : A) (back : List A) → [] ≡ front ++ x ∷ back → ⊥
  no-end [] x back is = cc
  no-end (y ∷ front) x back is = cc

  -- an element of a list with one more at its end is that one, or stands before it
  last-or-before : (xs : List A) (e : A) (front : List A) (x : A) (back : List A) → xs ++ e ∷ [] ≡ front ++ x ∷ back
      → ((front ≡ xs) × (x ≡ e)) ⊎ ((rest : List A) × (xs ≡ front ++ x ∷ rest))
  last-or-before [] e [] x back is = let same : x ≡ e = cc in inl (refl, same)
  last-or-before [] e (y ∷ front) x back is = let rest : [] ≡ front ++ x ∷ back = cc in absurd (no-end front x back rest)
  last-or-before (z ∷ xs) e [] x back is = let same : z ≡ x = cc in inr (xs, ap (λ w. w ∷ xs) same)
  last-or-before (z ∷ xs) e (y ∷ front) x back is =
      let first : z ≡ y = cc in
      let tail : xs ++ e ∷ [] ≡ front ++ x ∷ back = cc in
      elim (last-or-before xs e front x back tail) [
        | inl end ↦ inl (ap (λ l. y ∷ l) end.0 ∙ ap (λ w. w ∷ xs) (sym first), end.1)
        | inr more ↦ inr (more.0, ap (λ w. w ∷ xs) first ∙ ap (λ l. y ∷ l) more.1)
      ]

  get-push : (xs : List A) (e : A) (k : ℕ) (x : A) → slice_get (xs ++ e ∷ []) k ≡ Some x
      → (slice_get xs k ≡ Some x) ⊎ ((k ≡ length xs) × (e ≡ x))
  get-push [] e zero x is = let same : e ≡ x = cc in inr (refl, same)
  get-push [] e (suc k) x is = absurd (cc)
  get-push (y ∷ xs) e zero x is = inl is
  get-push (y ∷ xs) e (suc k) x is = elim (get-push xs e k x is) [
    | inl before ↦ inl before
    | inr end ↦ inr (ap suc end.0, end.1)
  ]

-- One event more

placed_of-push : (history : List Event) (event : Event) → placed_of (history ++ event ∷ []) ≡ placed_after (placed_of history) event
placed_of-push history event = fold-append placed_after [] history (event ∷ [])

accepted_of-push : (history : List Event) (event : Event) → accepted_of (history ++ event ∷ []) ≡ accepted_of history + cond (accepts event) 1 0
accepted_of-push history event = sum_by_push (λ e. cond (accepts e) 1 0) history event

placed-kept : (placed : List Placed) (event : Event) → accepts event ≡ false → placed_after placed event ≡ placed
placed-kept placed event none = grind (arith, cond-false)

module _ (history : List Event) (event : Event) (none : accepts event ≡ false) where
  same-placed : placed_of (history ++ event ∷ []) ≡ placed_of history
  same-placed = placed_of-push history event ∙ placed-kept (placed_of history) event none

  same-accepted : accepted_of (history ++ event ∷ []) ≡ accepted_of history
  same-accepted = accepted_of-push history event ∙ ap (λ b. accepted_of history + cond b 1 0) none ∙ add-zero (accepted_of history)

  since-stays : (from : ℕ) → IsSince history from → IsSince (history ++ event ∷ []) from
  since-stays from since = grind (arith, last-or-before)

since-before : (history : List Event) (event : Event) (from : ℕ) → IsSince (history ++ event ∷ []) from → IsSince history from
since-before history event from since = grind (arith, append_assoc)

module _ (rules : Rules) where
  at-now : (history : List Event) → IsStateAt rules history (next_of history) (state_after rules history)
  at-now history = grind (arith, append-nil)

  at-still : (history : List Event) (event : Event) → accepts event ≡ false → (cycle : ℕ) (state : PlanState)
      → IsStateAt rules history cycle state → IsStateAt rules (history ++ event ∷ []) cycle state
  at-still history event none cycle state at = grind (arith, at, append_assoc, same-placed, same-accepted)

  -- before any event
  pub keeps-first : (states : States) → states.since ≡ 0 → states.before.items ≡ state_after rules [] ∷ []
      → IsValid [] (state_after rules []).cycle (state_after rules []).pending → KeepsStates rules [] [] states
  keeps-first states zero_is one valid = grind (arith, get-push, at-now, no-end)

  -- an event that opens no cycle and accepts no change
  pub keeps-closed : (history : List Event) (event : Event) (placed : List Placed) (states : States) → is_open event ≡ false → accepts event ≡ false
      → KeepsStates rules history placed states → KeepsStates rules (history ++ event ∷ []) placed states
  keeps-closed history event placed states closed none keeps =
      let next : next_of (history ++ event ∷ []) ≡ next_of history =
      next_of-push history event ∙ ap (λ b. next_of history + cond b 1 0) closed ∙ add-zero (next_of history) in
      record {
        up_to_next = keeps.up_to_next ∙ ap (λ n. n + 1) (sym next);
        some = let some = keeps.some in omega (arith, some, next);
        each = λ k state is. at-still history event none (states.since + k) state (keeps.each k state is);
        valid = keeps.valid;
        held = subst (λ p. IsPrunedBefore states.since p placed) (sym (same-placed history event none)) keeps.held;
        behind = since-stays history event none states.since keeps.behind;
        least = λ from since. keeps.least from (since-before history event from since);
      }

  -- a cycle that is opened, and the state behind it
  pub keeps-opened : (history : List Event) (cycle mask : ℕ) (placed : List Placed) (old new : States) → new.since ≡ old.since
      → new.before.items ≡ old.before.items ++ state_after rules (history ++ Open cycle mask ∷ []) ∷ []
      → IsValid placed (state_after rules (history ++ Open cycle mask ∷ [])).cycle (state_after rules (history ++ Open cycle mask ∷ [])).pending
      → KeepsStates rules history placed old → KeepsStates rules (history ++ Open cycle mask ∷ []) placed new
  keeps-opened history cycle mask placed old new same more valid keeps =
      let event : Event = Open cycle mask in
      let state_now : PlanState = state_after rules (history ++ event ∷ []) in
      let next : next_of (history ++ event ∷ []) ≡ next_of history + 1 = next_of-push history event in
      let count : length new.before.items ≡ length old.before.items + 1 = ap length more ∙ length-append old.before.items (state_now ∷ []) in
      let so_far = keeps.up_to_next in
      record {
        up_to_next = omega (arith, next, count, so_far, same);
        some = let some = keeps.some in omega (arith, some, next, same);
        each = grind (arith, get-push, at-still, at-now);
        valid = λ k state is.
            elim (get-push old.before.items state_now k state (subst (λ l. slice_get l k ≡ Some state) more is)) [
              | inl before ↦ keeps.valid k state before
              | inr end ↦ subst (λ (s : PlanState). IsValid placed s.cycle s.pending) end.1 valid
            ];
        held = subst (λ s. IsPrunedBefore s (placed_of (history ++ event ∷ [])) placed) (sym same)
            (subst (λ p. IsPrunedBefore old.since p placed) (sym (same-placed history event refl)) keeps.held);
        behind = subst (IsSince (history ++ event ∷ [])) (sym same) (since-stays history event refl old.since keeps.behind);
        least = λ from since. let least = keeps.least from (since-before history event from since) in omega (arith, least, same);
      }

  -- an accepted change: only the state before the next cycle is kept
  pub keeps-accepted : (history : List Event) (event : Event) (placed : List Placed) (states : States) → is_open event ≡ false → accepts event ≡ true
      → states.since ≡ next_of (history ++ event ∷ []) → states.before.items ≡ state_after rules (history ++ event ∷ []) ∷ []
      → IsValid placed (state_after rules (history ++ event ∷ [])).cycle (state_after rules (history ++ event ∷ [])).pending
      → IsPrunedBefore (next_of (history ++ event ∷ [])) (placed_of (history ++ event ∷ [])) placed
      → KeepsStates rules (history ++ event ∷ []) placed states
  keeps-accepted history event placed states closed accepted now_is one valid held =
      let next : next_of (history ++ event ∷ []) ≡ next_of history =
      next_of-push history event ∙ ap (λ b. next_of history + cond b 1 0) closed ∙ add-zero (next_of history) in
      let since_is : states.since ≡ next_of history = now_is ∙ next in
      let now : PlanState = state_after rules (history ++ event ∷ []) in
      record {
        up_to_next = let count = ap length one in omega (arith, count, next, since_is);
        some = omega (arith, next, since_is);
        each = λ k state is.
            elim (get-push [] now k state (subst (λ l. slice_get l k ≡ Some state) one is)) [
              | inl none ↦ absurd (cc)
              | inr end ↦
                  let number = end.0 in
                  let place : next_of (history ++ event ∷ []) ≡ states.since + k = omega (arith, number, next, since_is) in
                  subst (IsStateAt rules (history ++ event ∷ []) (states.since + k)) end.1
                  (subst (λ c. IsStateAt rules (history ++ event ∷ []) c now) place (at-now (history ++ event ∷ [])))
            ];
        valid = λ k state is.
            elim (get-push [] now k state (subst (λ l. slice_get l k ≡ Some state) one is)) [
              | inl none ↦ absurd (cc)
              | inr end ↦ subst (λ (s : PlanState). IsValid placed s.cycle s.pending) end.1 valid
            ];
        held = subst (λ n. IsPrunedBefore n (placed_of (history ++ event ∷ [])) placed) (sym now_is) held;
        behind = grind (arith, last-or-before, sum_by-append);
        least = λ from since. let least = since history [] event refl accepted in omega (arith, least, since_is);
      }

  -- a change that is refused, which leaves the entries as they are
  pub keeps-refused : (history : List Event) (event : Event) (placed behind : List Placed) (states : States) → is_open event ≡ false
      → accepts event ≡ false → behind ≡ placed → KeepsStates rules history placed states
      → KeepsStates rules (history ++ event ∷ []) behind states
  keeps-refused history event placed behind states closed none stays keeps =
      subst (λ p. KeepsStates rules (history ++ event ∷ []) p states) (sym stays) (keeps-closed history event placed states closed none keeps)

-- so it does in a master
pub refused-placed : (old new : List Placed) (from : ℕ) (change : Change) (verdict : Verdict) → new ≡ kept_behind old from change verdict
    → is_accepted verdict ≡ false → new ≡ old
refused-placed old new from change verdict is refused = grind (arith, cond-false)

-- What a change is planned from: the entries that are kept, and one of the states

module _ (master : LeanView) (states : States) (keeps : KeepsStates master.rules master.history master.placed states)
    (from : ℕ) (state : PlanState) (late : states.since ≤ from)
    (found : slice_get states.before.items (from - states.since) ≡ Some state) where
  at : IsStateAt master.rules master.history from state
  at =
      let place : states.since + (from - states.since) ≡ from = omega (arith, late) in
      subst (λ c. IsStateAt master.rules master.history c state) place (keeps.each (from - states.since) state found)

  cycle-is : state.cycle ≡ from
  cycle-is = ap (λ s. s.cycle) at.is ∙ at.next

  pub found-valid : IsValid master.placed state.cycle state.pending
  found-valid = keeps.valid (from - states.since) state found

  -- no later than the next cycle
  pub found-early : state.cycle ≤ next_of master.history
  found-early = grind (arith, at, sum_by-append)

  held-from : IsPrunedBefore (next_of at.front) (placed_of at.front) master.placed
  held-from = grind (arith, at)

  -- what is planned from them can be settled, from the cycle of the state on
  module _ (change : Change) (planned : CorePlannedView) (is : IsCorePlan (kept_snapshot master state) change planned) where
    pub can-settle : CanSettleKept master planned
    can-settle = grind (arith, at, held-from)

    pub settled-from : kept_from master.history planned ≡ from
    settled-from = grind (arith, cond-true, eqb, eq-eqb, cycle-is)

-- where no state is kept before a cycle, no change can be planned from there
pub no-answer : (rules : Rules) (history : List Event) (placed : List Placed) (states : States) (change : Change) (from : ℕ)
    (verdict : Verdict) (trail : List ℕ) → KeepsStates rules history placed states → (states.since ≤ from → states.since + length states.before.items ≤ from)
    → IsRightAnswer rules history change from verdict trail → ⊥
no-answer rules history placed states change from verdict trail keeps none right = grind arith
