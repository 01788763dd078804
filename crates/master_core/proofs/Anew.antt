-- A change that is accepted by a plan from an earlier cycle is accepted too where it is planned from the next cycle.
use Rattle.std.proofs.Common.{◌≡◌, ℕ, ◌+◌, ◌≤◌, true, List, sym, ap, ◌∙◌, subst, zero-add, arith}
use Rattle.requirement_table.specs.declared.entries.Placed.{Placed}
use Rattle.change_protocol.specs.declared.operations.Change.{Change}
use Rattle.change_protocol.specs.Applied.{applied}
use Rattle.change_protocol.proofs.Shared.{changed-applied}
use Rattle.planner_policies.specs.Plan.{NeverMisses, is_missed_at, pending_at}
use Rattle.planner_policies.proofs.Shared.{on-missed}
use Rattle.admission_rules.specs.declared.Rules.{Rules}
use Rattle.admission.specs.declared.verdict.Verdict.{Verdict}
use Rattle.admission.specs.declared.verdict.Verdict.TheVariants.{Malformed, Passed, Miss, Horizon, Accepted}
use Rattle.admission.specs.Recurrence.{HasNoRecurrence}
use Rattle.admission.specs.Verdict.{IsInTime, IsRules, IsVerdict, is_accepted, plan_from}
use Rattle.master_core.specs.declared.event.Event.{Event}
use Rattle.master_core.specs.History.{IsLegal, IsRightAnswer, next_of, placed_of, plan_of}
use Rattle.master_core.proofs.Legal.{after-answer, sound-of_legal}
use Rattle.master_core.proofs.Repeating.{GoesRound, recurs-answer, recurs-of_legal, recurs-onward}
use Rattle.master_core.proofs.Unfelt.{pending_set-unfelt}

-- what never misses goes on so from each cycle
onward-never : (rules : Rules) (placed : List Placed) (next pending : ℕ) → pending ≡ pending_at (plan_of rules placed) next
    → NeverMisses (plan_of rules placed) → NeverMisses (plan_from rules placed next pending)
onward-never rules placed next pending is never m slot known =
    sym
    (on-missed (plan_of rules placed) next m slot known
    ∙ ap (λ (n : ℕ). is_missed_at (plan_from rules placed n (pending_at (plan_of rules placed) next)) m slot) (zero-add next)
    ∙ ap (λ (set : ℕ). is_missed_at (plan_from rules placed next set) m slot) (sym is))
    ∙ never (next + m) slot known

-- a verdict on a change that breaks no rule, is in time, never misses a deadline and repeats
verdict-accepted : (rules : Rules) (placed : List Placed) (pending next : ℕ) (change : Change) (verdict : Verdict) → IsInTime rules placed next change
    → NeverMisses (plan_from rules (applied placed change) next pending)
    → (HasNoRecurrence (plan_from rules (applied placed change) next pending) rules.horizon → ⊥)
    → IsVerdict rules placed pending next next change verdict → is_accepted verdict ≡ true
verdict-accepted rules placed pending next change verdict in_time never recurs is = grind arith

pub accepted-anew : GoesRound → (rules : Rules) (history : List Event) (change : Change) (from : ℕ) (verdict anew : Verdict) (trail : List ℕ)
    → IsRules rules → IsLegal rules history → IsRightAnswer rules history change from verdict trail → is_accepted verdict ≡ true
    → IsVerdict rules (placed_of history) (pending_at (plan_of rules (placed_of history)) (next_of history)) (next_of history) (next_of history) change anew
    → is_accepted anew ≡ true
accepted-anew round rules history change from (Malformed op why) anew trail ranges legal right accepted is = absurd (cc)
accepted-anew round rules history change from (Passed start opened) anew trail ranges legal right accepted is = absurd (cc)
accepted-anew round rules history change from (Miss slot release cycle) anew trail ranges legal right accepted is = absurd (cc)
accepted-anew round rules history change from (Horizon first walked) anew trail ranges legal right accepted is = absurd (cc)
accepted-anew round rules history change from (Accepted first length) anew trail ranges legal right accepted is =
    let old = placed_of history in
    let new = applied old change in
    let next = next_of history in
    let sound = sound-of_legal rules history legal in
    let then = (after-answer rules history change from (Accepted first length) trail sound right).sound in
    let in_time = right.answer.0 in
    let left : pending_at (plan_of rules old) next ≡ pending_at (plan_of rules new) next =
    sym (pending_set-unfelt (plan_of rules old) new change.start (changed-applied old change sound.well_placed.in_range) next
    (subst (λ (n : ℕ). n ≤ change.start) (sym (zero-add next)) in_time.ahead)) in
    let recurs = recurs-answer rules history change from (Accepted first length) trail sound.well_placed (recurs-of_legal rules history ranges legal) right in
    verdict-accepted rules old (pending_at (plan_of rules old) next) next change anew in_time
    (onward-never rules new next (pending_at (plan_of rules old) next) left then.in_time)
    (λ none.
    recurs-onward round rules new next then.well_placed recurs
    (subst (λ (set : ℕ). HasNoRecurrence (plan_from rules new next set) rules.horizon) left none))
    is
