-- Changes that were planned apart are settled where their plan leads to the core.
use Rattle.std.proofs.Common.{◌≡◌, ℕ, ◌+◌, ◌-◌, ◌<◌, ◌≤◌, Bool, true, false, if◌then◌else◌, List, [], Option, None, All, ⊎_elim, refl, sym, ap, ◌∙◌, subst, arith}
use Rattle.std.proofs.lemmas.Grind.{common_steps}
use Rattle.std.proofs.lemmas.Bool.{cases_lt}
use Rattle.requirement_table.specs.declared.entries.Placed.{Placed}
use Rattle.change_protocol.specs.declared.operations.Change.{Change}
use Rattle.change_protocol.specs.Applied.{applied}
use Rattle.change_protocol.specs.Operations.{HasTypes}
use Rattle.planner_policies.specs.declared.state.PlanState.{PlanState}
use Rattle.bit_sets.specs.Sets.{has_bit, most_slots, set_of}
use Rattle.requirement_table.specs.Table.{IsWellPlaced, not_over}
use Rattle.requirement_table.proofs.Shared.{not_over-well_placed}
use Rattle.bit_sets.proofs.Shared.{set_of-same}
use Rattle.planner_policies.specs.Plan.{HasNoMiss, HasNoMissIn, IsMissIn, IsValid, Planning, is_missed_at, is_missed_in, left_after, pending_at, planning_of}
use Rattle.planner_policies.proofs.Shared.{before-first, state-left, state-missed}
use Rattle.admission_rules.specs.declared.Rules.{Rules}
use Rattle.admission.specs.declared.verdict.Verdict.{Verdict}
use Rattle.admission.specs.declared.verdict.Verdict.TheVariants.{Passed}
use Rattle.admission.specs.Verdict.{IsInTime, IsRules, IsTakenWhereDue, IsVerdict, plan_from, ranking_by, trail_of}
use Rattle.master_core.specs.declared.answer.Answer.{Answer}
use Rattle.master_core.specs.declared.answer.Made.{Made}
use Rattle.master_core.specs.declared.answered.Answered.{Answered}
use Rattle.master_core.specs.declared.apart.Snapshot.{Snapshot}
use Rattle.master_core.specs.declared.event.Event.{Event}
use Rattle.master_core.specs.declared.event.Event.TheVariants.{Submit}
use Rattle.master_core.specs.Answers.{AreKept, IsAnswerTo, IsPlannedFrom, answer_at, decision_of, is_passed_by}
use Rattle.master_core.specs.Apart.{IsPlannable}
use Rattle.master_core.specs.CorePlans.{CanSettleFrom, CorePlannedView, IsAnsweredFrom, IsLedTo, IsSettledByPlan, Leads}
use Rattle.master_core.specs.Cores.{CoreView, IsAnswered, IsCore, IsHeld, IsStateOf}
use Rattle.master_core.specs.History.{IsRightAnswer, accepted_of, placed_of}
use Rattle.master_core.proofs.CoreSteps.{made-to, state-here}
use Rattle.master_core.proofs.Onward.{left-missed, left-pending}
use Rattle.master_core.proofs.Passing.{not_over-again}
use Rattle.master_core.proofs.Legal.{sound-of_legal}
use Rattle.master_core.proofs.Settling.{gone, none-behind, same-placed, since-then, still}
use Rattle.master_core.proofs.States.{TrailLaw, VerdictLaw, verdict-held}

-- an answer by a plan from the next cycle on
pub answered-from : (core : CoreView) → IsCore core → (change : Change) (answered : Answered) → IsAnswered core change answered → IsAnsweredFrom core change answered
answered-from core is change answered by = record {
  pending = core.pending;
  leads = record {
    early = let from = by.from in omega arith;
    held = subst (λ (n : ℕ). IsValid core.placed n core.pending) (sym by.from) is.safe.safe.held;
    in_time = λ m slot before known. absurd (let from = by.from in omega arith);
    pending =
        subst (λ (n : ℕ). core.pending ≡ pending_at (plan_from core.rules core.placed n core.pending) (core.cycle - n)) (sym by.from) (state-here core is);
  };
  verdict = subst (λ (n : ℕ). IsVerdict core.rules core.placed core.pending n core.cycle change answered.verdict) (sym by.from) by.verdict;
  trail = grind arith;
}

-- a change that is in time is accepted where that is due, as a law says it
abbrev pub DueLaw : Type 0
DueLaw = (rules : Rules) (placed : List Placed) (pending from next : ℕ) (change : Change) (verdict : Verdict) → IsRules rules → IsWellPlaced placed
    → All HasTypes change.ops → IsValid placed from pending → from ≤ next → IsInTime rules placed next change
    → IsVerdict rules placed pending from next change verdict → IsTakenWhereDue rules (plan_from rules (applied placed change) from pending) verdict

-- what is answered, and the event

abbrev pub told_of : Answer → Answered
told_of answer = record { from = answer.from; verdict = answer.verdict; trail = answer.trail }

pub submit-same : (caller from of : ℕ) (one other : Change) (first second : Verdict) (trail also : List ℕ) → one ≡ other → from ≡ of → first ≡ second → trail ≡ also
    → Submit caller one from first trail ≡ Submit caller other of second also
submit-same caller from of one other first second trail also a b c d = rw (a, b, c, d) refl

-- from state to state

pub first-pending : (plan : Planning) → plan.pending ≡ set_of most_slots (has_bit plan.pending) → plan.pending ≡ pending_at plan 0
first-pending plan known = grind (arith, set_of-same, before-first)

pub step-pending : (rules : Rules) (left : List Placed) (from pending n cycle set : ℕ) → cycle ≡ from + n → set ≡ pending_at (plan_from rules left from pending) n
    → set_of most_slots (left_after (planning_of (ranking_by rules left) rules.window cycle set) cycle (has_bit set))
    ≡ pending_at (plan_from rules left from pending) (n + 1)
step-pending rules left from pending n cycle set here is = rw (here, is) (state-left (plan_from rules left from pending) n)

-- one cycle more in which no instance is missed

pub none-more : (plan : Planning) (n : ℕ) → HasNoMiss plan n → ((slot : ℕ) → slot < most_slots → is_missed_at plan n slot ≡ false) → HasNoMiss plan (n + 1)
none-more plan n none here m slot before known =
    ⊎_elim
    (λ (early : m < n). none m slot early known)
    (λ (late : n ≤ m). let at : m ≡ n = omega arith in ap (λ (k : ℕ). is_missed_at plan k slot) at ∙ here slot known)
    (cases_lt m n)

-- what is missed in a cycle of a planning is missed where it is planned from the state before the cycle
missed-here : (rules : Rules) (left : List Placed) (from pending n cycle set slot : ℕ) → cycle ≡ from + n → set ≡ pending_at (plan_from rules left from pending) n → slot < most_slots
    → is_missed_in (planning_of (ranking_by rules left) rules.window cycle set) cycle (has_bit set) slot
    ≡ is_missed_at (plan_from rules left from pending) n slot
missed-here rules left from pending n cycle set slot here is known = rw (here, is) (state-missed (plan_from rules left from pending) n slot known)

pub step-in_time : (rules : Rules) (left : List Placed) (from pending n cycle set : ℕ) → cycle ≡ from + n → set ≡ pending_at (plan_from rules left from pending) n
    → HasNoMiss (plan_from rules left from pending) n
    → HasNoMissIn (planning_of (ranking_by rules left) rules.window cycle set) cycle (has_bit set)
    → HasNoMiss (plan_from rules left from pending) (n + 1)
step-in_time rules left from pending n cycle set here is none now = grind (arith, none-more, missed-here)

-- a list without the entries that are over by the first cycle misses what the whole list misses

left-in_time : (rules : Rules) (from pending n : ℕ) (placed : List Placed) → IsWellPlaced placed
    → HasNoMiss (plan_from rules (not_over from placed) from pending) n → HasNoMiss (plan_from rules placed from pending) n
left-in_time rules from pending n placed well none m slot before known =
    sym
    (left-missed rules from pending placed (not_over from placed) well (not_over-well_placed from placed well) (not_over-again from from placed (omega arith)) m slot
    known)
    ∙ none m slot before known

pub leads-by : (rules : Rules) (placed : List Placed) (from to : PlanState) → IsWellPlaced placed → IsValid placed from.cycle from.pending → from.cycle ≤ to.cycle
    → HasNoMiss (plan_from rules (not_over from.cycle placed) from.cycle from.pending) (to.cycle - from.cycle)
    → to.pending ≡ pending_at (plan_from rules (not_over from.cycle placed) from.cycle from.pending) (to.cycle - from.cycle) → Leads rules placed from to
leads-by rules placed from to well valid order none is = record {
  early = order;
  held = valid;
  in_time = left-in_time rules from.cycle from.pending (to.cycle - from.cycle) placed well none;
  pending =
      is
      ∙ left-pending rules from.cycle from.pending placed (not_over from.cycle placed) well (not_over-well_placed from.cycle placed well)
      (not_over-again from.cycle from.cycle placed (omega arith)) (to.cycle - from.cycle);
}

-- where one state leads to another one, no cycle between them has a miss

pub leads-none : (rules : Rules) (placed : List Placed) (from to : PlanState) (n cycle set slot release : ℕ) → IsWellPlaced placed → Leads rules placed from to
    → n < to.cycle - from.cycle → cycle ≡ from.cycle + n
    → set ≡ pending_at (plan_from rules (not_over from.cycle placed) from.cycle from.pending) n
    → IsMissIn (planning_of (ranking_by rules (not_over from.cycle placed)) rules.window cycle set) cycle (has_bit set) slot release → ⊥
leads-none rules placed from to n cycle set slot release well leads before here is miss =
    let left = not_over from.cycle placed in
    let known = miss.known in
    let missed : is_missed_at (plan_from rules left from.cycle from.pending) n slot ≡ true =
    sym (missed-here rules left from.cycle from.pending n cycle set slot here is known) ∙ miss.missed in
    let not : is_missed_at (plan_from rules left from.cycle from.pending) n slot ≡ false =
    left-missed rules from.cycle from.pending placed left well (not_over-well_placed from.cycle placed well) (not_over-again from.cycle from.cycle placed (omega arith))
    n slot known
    ∙ leads.in_time n slot before known in
    grind arith

-- and the planning of what is left comes to the other one

pub leads-to : (rules : Rules) (placed : List Placed) (from to at : PlanState) (n : ℕ) → IsWellPlaced placed → Leads rules placed from to → n ≡ to.cycle - from.cycle
    → at.cycle ≡ from.cycle + n → at.pending ≡ pending_at (plan_from rules (not_over from.cycle placed) from.cycle from.pending) n → at ≡ to
leads-to rules placed from to at n well leads end here is =
    let cycle_is : at.cycle ≡ to.cycle = omega arith in
    let pending_is : at.pending ≡ to.pending =
    is
    ∙ left-pending rules from.cycle from.pending placed (not_over from.cycle placed) well (not_over-well_placed from.cycle placed well)
    (not_over-again from.cycle from.cycle placed (omega arith)) n
    ∙ ap (pending_at (plan_from rules placed from.cycle from.pending)) end
    ∙ sym leads.pending in
    same-state at to cycle_is pending_is
  where
    same-state : (one other : PlanState) → one.cycle ≡ other.cycle → one.pending ≡ other.pending → one ≡ other
    same-state one other cycle_is pending_is = grind arith

-- what contracts see of a change that was planned so
abbrev pub view : Snapshot → Answer → CorePlannedView
view snapshot answer = record { snapshot = snapshot; change = answer.change; decision = decision_of answer }

none-kept : (forgets : Bool) (from : ℕ) (made : Option Made) → AreKept forgets from None made → made ≡ None
none-kept forgets from made kept = grind arith

module _ (core : CoreView) (is : IsCore core) (snapshot : Snapshot) (plannable : IsPlannable snapshot) (led : IsLedTo core snapshot) (answer : Answer)
    (was : IsPlannedFrom snapshot.rules snapshot.placed snapshot.state answer) where
  planned : IsPlannedFrom core.rules core.placed snapshot.state answer
  planned = grind arith

  early : answer.from ≤ core.cycle
  early = let from = planned.from in let before = led.leads.early in omega arith

  held : IsValid core.placed answer.from snapshot.state.pending
  held = grind (arith, planned)

  leads : core.pending ≡ pending_at (plan_from core.rules core.placed answer.from snapshot.state.pending) (core.cycle - answer.from)
  leads = grind (arith, planned)

  in_time : HasNoMiss (plan_from core.rules core.placed answer.from snapshot.state.pending) (core.cycle - answer.from)
  in_time = grind (arith, planned, leads)

  decided : IsVerdict core.rules core.placed snapshot.state.pending answer.from answer.from answer.change answer.verdict
  decided = grind (arith, planned)

  trail-is : answer.trail ≡ trail_of (plan_from core.rules (applied core.placed answer.change) answer.from snapshot.state.pending) answer.verdict
  trail-is = grind (arith, planned, decided)

  -- the answer with the cycle that is the next one now
  pub record IsAnswerNow (now : Answer) (made : Option Made) : Type 0 where
    pub to : IsAnswerTo core (record now { made = made })
    pub by : IsAnsweredFrom core answer.change (record { from = now.from; verdict = now.verdict; trail = now.trail })
    pub same : now.from ≡ answer.from
    pub change_is : now.change ≡ answer.change
    pub verdict_is : IsVerdict core.rules core.placed snapshot.state.pending answer.from core.cycle answer.change now.verdict
    pub trail_is : now.trail ≡ trail_of (plan_from core.rules (applied core.placed answer.change) answer.from snapshot.state.pending) now.verdict

  settled-by : (made : Option Made) (b : Bool) → is_passed_by core.cycle answer.change.start answer.verdict ≡ b
      → AreKept core.forgets (if b then record answer { verdict = Passed answer.change.start core.cycle; trail = []; made = None } else answer).from
      (if b then record answer { verdict = Passed answer.change.start core.cycle; trail = []; made = None } else answer).made made
      → IsAnswerNow (if b then record answer { verdict = Passed answer.change.start core.cycle; trail = []; made = None } else answer) made
  settled-by made true passed kept = grind (arith, gone, early, decided, planned, held, leads, none-kept, in_time)
  settled-by made false ahead kept =
      let stays = still core.rules core.placed snapshot.state.pending answer.from core.cycle answer.change early answer.verdict ahead decided in
      record {
        to = record {
          types = planned.types;
          early = early;
          pending = snapshot.state.pending;
          held = held;
          leads = leads;
          verdict = stays;
          made = made-to core is core.forgets (record answer { made = made }) answer.made made planned.decided.list planned.made kept;
        };
        by = grind (arith, leads, early, held, in_time, trail-is);
        same = refl;
        change_is = refl;
        verdict_is = stays;
        trail_is = trail-is;
      }

  pub settled : (made : Option Made) → AreKept core.forgets (answer_at core.cycle answer).from (answer_at core.cycle answer).made made → IsAnswerNow (answer_at core.cycle answer) made
  settled made kept = settled-by made (is_passed_by core.cycle answer.change.start answer.verdict) refl kept

  -- the plan of the change decides

  answer-by : (b : Bool)
      → told_of (if b then record answer { verdict = Passed answer.change.start core.cycle; trail = []; made = None } else answer)
      ≡ (if b then record { from = snapshot.state.cycle; verdict = Passed answer.change.start core.cycle; trail = [] }
      else record { from = snapshot.state.cycle; verdict = answer.verdict; trail = answer.trail })
  answer-by b = grind (arith, planned)

  pub by-plan : DueLaw → (made : Option Made) → IsAnswerNow (answer_at core.cycle answer) made
      → IsSettledByPlan core (view snapshot answer) (told_of (answer_at core.cycle answer))
  by-plan taken made now =
      let verdict_now : IsVerdict core.rules core.placed snapshot.state.pending snapshot.state.cycle core.cycle answer.change (answer_at core.cycle answer).verdict =
      grind (arith, common_steps, planned) in
      record {
        led = led;
        same = answer-by (is_passed_by core.cycle answer.change.start answer.verdict);
        answer = grind (arith, planned);
        due = λ ahead.
            taken core.rules core.placed snapshot.state.pending snapshot.state.cycle core.cycle answer.change (answer_at core.cycle answer).verdict is.safe.in_range
            is.safe.safe.well_placed planned.types led.leads.held led.leads.early ahead verdict_now;
      }

  -- it is right after a history at some place of which the snapshot was taken
  module _ (verdicts : VerdictLaw) (trails : TrailLaw) (history : List Event) (of : IsStateOf history core) (can : CanSettleFrom history core.forgets snapshot)
      (now : Answer) (made : Option Made) (by : IsAnswerNow now made) where
    abbrev whole : List Placed
    whole = placed_of history

    pub right-then : IsRightAnswer core.rules history now.change now.from now.verdict now.trail × IsHeld core.forgets now.from whole core.placed
    right-then =
        let place = can (led.accepted ∙ of.counted) in
        let front = place.front in
        let back = place.begins.0 in
        let earlier = place.core in
        let fo = place.of in
        let is_of = place.is in
        let accepted_is : accepted_of front ≡ accepted_of history =
        sym fo.counted ∙ sym (ap (λ (s : Snapshot). s.accepted) is_of) ∙ led.accepted ∙ of.counted in
        let none = none-behind front back (accepted_is ∙ ap accepted_of (sym place.begins.1)) in
        let whole_is : placed_of front ≡ whole = sym (same-placed front back none) ∙ ap placed_of place.begins.1 in
        let from_is : now.from ≡ earlier.cycle = by.same ∙ planned.from ∙ ap (λ (s : Snapshot). s.state.cycle) is_of in
        let list_is : earlier.placed ≡ core.placed = sym (ap (λ (s : Snapshot). s.placed) is_of) ∙ led.placed in
        let kept : IsHeld core.forgets now.from whole core.placed =
        subst (λ (b : Bool). IsHeld b now.from whole core.placed) place.same
        (subst (λ (n : ℕ). IsHeld earlier.forgets n whole core.placed) (sym from_is)
        (subst (λ (w : List Placed). IsHeld earlier.forgets earlier.cycle w core.placed) whole_is
        (subst (λ (l : List Placed). IsHeld earlier.forgets earlier.cycle (placed_of front) l) list_is fo.held))) in
        let room = is.safe.in_range.few_slots in
        let sound = (sound-of_legal core.rules history of.legal).well_placed in
        let decided_now : IsVerdict core.rules core.placed snapshot.state.pending now.from core.cycle answer.change now.verdict =
        subst (λ (n : ℕ). IsVerdict core.rules core.placed snapshot.state.pending n core.cycle answer.change now.verdict) (sym by.same) by.verdict_is in
        let trail_now : now.trail ≡ trail_of (plan_from core.rules (applied core.placed answer.change) now.from snapshot.state.pending) now.verdict =
        by.trail_is
        ∙ ap (λ (n : ℕ). trail_of (plan_from core.rules (applied core.placed answer.change) n snapshot.state.pending) now.verdict) (sym by.same) in
        let on_whole =
        verdict-held verdicts trails core.rules whole core.placed sound room answer.change planned.types now.from snapshot.state.pending core.cycle now.verdict
        decided_now core.forgets kept in (
          subst (λ (ch : Change). IsRightAnswer core.rules history ch now.from now.verdict now.trail) (sym by.change_is)
              (grind (arith, planned, since-then)),
          kept,
        )
