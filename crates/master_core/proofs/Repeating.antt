-- What was accepted repeats, also behind the cycles that were opened since: within the horizon from each next cycle.
use Rattle.std.proofs.Common.{◌≡◌, ℕ, ◌+◌, ◌-◌, ◌*◌, ◌/◌, ◌%◌, ◌<◌, ◌≤◌, max, not, ◌&&◌, ◌||◌, Bool, false, cond, List, [], ◌∷◌, ◌++◌, All, refl, sym, ap, ◌∙◌, subst, zero-add, add-zero, arith}
use Rattle.std.proofs.Math.Nat.{add-mul-mod_self_right, le_trans}
use Rattle.requirement_table.specs.declared.entries.Placed.{Placed}
use Rattle.bit_sets.specs.Sets.{most_slots}
use Rattle.requirement_table.specs.Table.{IsWellPlaced}
use Rattle.bit_sets.proofs.Shared.{has_bit-none, set_of-same}
use Rattle.change_protocol.specs.declared.operations.Change.{Change}
use Rattle.change_protocol.specs.Applied.{IsChangedAt, applied}
use Rattle.change_protocol.proofs.Shared.{changed-applied}
use Rattle.planner_policies.specs.Loop.{RepeatsFrom, settled_at}
use Rattle.planner_policies.specs.Plan.{Planning, pending_at, pending_before}
use Rattle.planner_policies.proofs.Shared.{before-first, before-next, on-pending}
use Rattle.admission_rules.specs.declared.Rules.{Rules}
use Rattle.admission.specs.declared.verdict.Verdict.{Verdict}
use Rattle.admission.specs.declared.verdict.Verdict.TheVariants.{Malformed, Passed, Miss, Horizon, Accepted}
use Rattle.admission.specs.Recurrence.{AreAlike, HasNoRecurrence, IsLeastCommonPeriod, IsRecurrence, bound_of}
use Rattle.admission.specs.Verdict.{IsRules, is_accepted, plan_from}
use Rattle.master_core.specs.declared.event.Event.{Event}
use Rattle.master_core.specs.declared.event.Event.TheVariants.{Submit, Look, Open}
use Rattle.master_core.specs.History.{IsLegal, IsRight, IsRightAnswer, is_open, next_of, placed_after, placed_of, plan_of}
use Rattle.master_core.proofs.Histories.{kept-along, next_of-push, placed_of-push}
use Rattle.master_core.proofs.Legal.{sound-of_legal}
use Rattle.master_core.proofs.Recurring.{alike-repeats, divided-gap}
use Rattle.master_core.proofs.Unfelt.{pending_set-unfelt}

-- the bound of a list

above : (placed : List Placed) (from b : ℕ) → bound_of from placed ≤ b → from ≤ b
above [] from b within = within
above (p ∷ placed) from b within = let rest = above placed (max from (settled_at p)) b within in omega arith

bound-within : (placed : List Placed) (from other b : ℕ) → bound_of from placed ≤ b → other ≤ b → bound_of other placed ≤ b
bound-within [] from other b within small = small
bound-within (p ∷ placed) from other b within small =
    let here = above placed (max from (settled_at p)) b within in
    bound-within placed (max from (settled_at p)) (max other (settled_at p)) b within (omega arith)

-- the plan of the list is in one state twice, at or below the horizon from the next cycle
pub record Recurs (rules : Rules) (placed : List Placed) (next : ℕ) : Type 0 where
  pub period : ℕ
  pub least_common : IsLeastCommonPeriod placed period
  pub first : ℕ
  pub cycles : ℕ
  pub some_cycles : 0 < cycles
  pub alike : AreAlike (plan_of rules placed) period first (first + cycles)
  pub short : cycles ≤ rules.horizon
  pub within : first + cycles ≤ next + rules.horizon

-- what is pending in the planning that goes on from a cycle
onward-pending : (rules : Rules) (placed : List Placed) (from pending n : ℕ) → pending ≡ pending_at (plan_of rules placed) from
    → pending_at (plan_of rules placed) (from + n) ≡ pending_at (plan_from rules placed from pending) n
onward-pending rules placed from pending n left = grind (arith, set_of-same, on-pending, zero-add)

-- an accepted list
accepted-recurs : (rules : Rules) (old new : List Placed) (start from next first length : ℕ) → IsChangedAt start old new → from ≤ start → from ≤ next
    → IsRecurrence (plan_from rules new from (pending_at (plan_of rules old) from)) first length → first + length ≤ from + rules.horizon
    → Recurs rules new next
accepted-recurs rules old new start from next first length changed ahead after recurrence within =
    let number = recurrence.number in
    let alike = recurrence.alike in
    let left : pending_at (plan_of rules old) from ≡ pending_at (plan_of rules new) from =
    sym (pending_set-unfelt (plan_of rules old) new start changed from (omega arith)) in
    let one : 0 + first ≡ from + number = omega arith in
    let other : 0 + (first + length) ≡ from + (number + length) = omega arith in
    record {
      period = recurrence.period;
      least_common = recurrence.least_common;
      first = first;
      cycles = length;
      some_cycles = recurrence.some_cycles;
      alike = record {
        one_settled = bound-within new from 0 (0 + first) (omega arith) (omega arith);
        other_settled = bound-within new from 0 (0 + (first + length)) (omega arith) (omega arith);
        place = ap (λ n. n % recurrence.period) one ∙ alike.place ∙ ap (λ n. n % recurrence.period) (sym other);
        pending = grind (arith, onward-pending);
      };
      short = omega arith;
      within = omega arith;
    }

pub recurs-answer : (rules : Rules) (history : List Event) (change : Change) (from : ℕ) (verdict : Verdict) (trail : List ℕ) → IsWellPlaced (placed_of history)
    → Recurs rules (placed_of history) (next_of history) → IsRightAnswer rules history change from verdict trail
    → Recurs rules (cond (is_accepted verdict) (applied (placed_of history) change) (placed_of history)) (next_of history)
recurs-answer rules history change from (Malformed op why) trail well recurs right = recurs
recurs-answer rules history change from (Passed start opened) trail well recurs right = recurs
recurs-answer rules history change from (Miss slot release cycle) trail well recurs right = recurs
recurs-answer rules history change from (Horizon first walked) trail well recurs right = recurs
recurs-answer rules history change from (Accepted first length) trail well recurs right =
    let in_time = right.answer.0 in
    accepted-recurs rules (placed_of history) (applied (placed_of history) change) change.start from (next_of history) first length
    (changed-applied (placed_of history) change well.in_range) (le_trans right.opened in_time.ahead) right.opened right.answer.1.1 right.answer.1.2

recurs-event : (rules : Rules) (history : List Event) (event : Event) → IsWellPlaced (placed_of history) → Recurs rules (placed_of history) (next_of history)
    → IsRight rules history event → Recurs rules (placed_after (placed_of history) event) (next_of history + cond (is_open event) 1 0)
recurs-event rules history (Submit caller change from verdict trail) well recurs right =
    subst (Recurs rules (placed_after (placed_of history) (Submit caller change from verdict trail))) (sym (add-zero (next_of history)))
    (recurs-answer rules history change from verdict trail well recurs right)
recurs-event rules history (Look caller next) well recurs right = subst (Recurs rules (placed_of history)) (sym (add-zero (next_of history))) recurs
recurs-event rules history (Open cycle mask) well recurs right = grind arith

recurs-more : (rules : Rules) (history : List Event) (event : Event) → IsWellPlaced (placed_of history) → Recurs rules (placed_of history) (next_of history)
    → IsRight rules history event → Recurs rules (placed_of (history ++ event ∷ [])) (next_of (history ++ event ∷ []))
recurs-more rules history event well recurs right = grind (arith, placed_of-push, next_of-push, recurs-event)

-- no entries

nothing-left : (before flagged : Bool) → before ≡ false → ((before || false) && not flagged) ≡ false
nothing-left before flagged none = rw none refl

none-before : (rules : Rules) (slot : ℕ) → pending_before (plan_of rules []) 0 slot ≡ false
none-before rules slot = before-first (plan_of rules []) slot ∙ has_bit-none slot

none-behind : (rules : Rules) (slot : ℕ) → pending_before (plan_of rules []) 1 slot ≡ false
none-behind rules slot = grind (arith, before-next, nothing-left, none-before)

pub empty-recurs : (rules : Rules) → IsRules rules → Recurs rules [] 0
empty-recurs rules ranges = grind (arith, set_of-same, none-before, none-behind)

pub recurs-of_legal : (rules : Rules) (history : List Event) → IsRules rules → IsLegal rules history → Recurs rules (placed_of history) (next_of history)
recurs-of_legal rules history ranges legal =
    kept-along (IsRight rules) (λ (h : List Event). Recurs rules (placed_of h) (next_of h))
    (λ before event was recurs right. recurs-more rules before event (sound-of_legal rules before was).well_placed recurs right) [] history tt
    (empty-recurs rules ranges) legal

-- what is pending goes on as it did, as it is known of every plan
abbrev pub GoesRound : Type 0
GoesRound = (plan : Planning) (n m k slot : ℕ) → IsWellPlaced plan.placed → n < m → All (RepeatsFrom (plan.from + n) (m - n)) plan.placed
    → pending_at plan n ≡ pending_at plan m → slot < most_slots → pending_before plan (m + k) slot ≡ pending_before plan (n + k) slot

same-place : (c more period : ℕ) → more % period ≡ 0 → c % period ≡ (c + more) % period
same-place c more period divided =
    let whole : c + more ≡ c + more / period * period = omega arith in
    sym (ap (λ n. n % period) whole ∙ add-mul-mod_self_right c (more / period) period)

-- so the planning that goes on from the next cycle has a recurrence within the horizon
pub recurs-onward : GoesRound → (rules : Rules) (placed : List Placed) (next : ℕ) → IsWellPlaced placed → Recurs rules placed next
    → HasNoRecurrence (plan_from rules placed next (pending_at (plan_of rules placed) next)) rules.horizon → ⊥
recurs-onward round rules placed next well recurs none =
    let plan = plan_of rules placed in
    let first = recurs.first in
    let d = recurs.cycles in
    let alike = recurs.alike in
    let at = max first next in
    let n = at - next in
    let k = at - first in
    let repeats = alike-repeats plan recurs.period first (first + d) (omega arith) recurs.least_common.common alike in
    let one : first + k ≡ next + n = omega arith in
    let other : first + d + k ≡ next + (n + d) = omega arith in
    let pending : pending_at plan (next + n) ≡ pending_at plan (next + (n + d)) = grind (arith, set_of-same) in
    let gap : (0 + (first + d)) - (0 + first) ≡ d = omega arith in
    let divided : d % recurs.period ≡ 0 =
    subst (λ (m : ℕ). m % recurs.period ≡ 0) gap (divided-gap (0 + first) (0 + (first + d)) recurs.period (omega arith) alike.place) in
    let behind : next + n + d ≡ next + (n + d) = omega arith in
    let set : ℕ = pending_at plan next in
    let past : rules.horizon < n + d =
    none recurs.period n (n + d) recurs.least_common (omega arith)
    (record {
      one_settled = bound-within placed 0 next (next + n) (omega arith) (omega arith);
      other_settled = bound-within placed 0 next (next + (n + d)) (omega arith) (omega arith);
      place = same-place (next + n) d recurs.period divided ∙ ap (λ m. m % recurs.period) behind;
      pending = sym (onward-pending rules placed next set n refl) ∙ pending ∙ onward-pending rules placed next set (n + d) refl;
    }) in
    omega arith
