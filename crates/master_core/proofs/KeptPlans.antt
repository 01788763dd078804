-- A change that was planned apart from a lean master is answered after what came meanwhile.
use Rattle.std.proofs.Common.{◌≡◌, ℕ, ◌+◌, ◌-◌, ◌≤◌, Bool, true, false, if◌then◌else◌, List, [], ◌∷◌, ◌++◌, Option, Some, None, Result, IfOk, OnOk, All, is_some, refl, sym, ap, ◌∙◌, subst, zero-add, arith}
use Rattle.std.proofs.lemmas.Bool.{eq-eqb, ne_eqb}
use Rattle.std.proofs.lemmas.Option.{same_Some}
use mathlib.Core.List.{IsPrefix}
use Rattle.requirement_table.specs.declared.entries.Placed.{Placed}
use Rattle.requirement_table.specs.Table.{IsWellPlaced, instance_in, not_over}
use Rattle.requirement_table.proofs.Shared.{instance_in-not_over}
use Rattle.bit_sets.proofs.Shared.{has_bit-none}
use Rattle.change_protocol.specs.declared.operations.Change.{Change}
use Rattle.change_protocol.specs.Applied.{applied}
use Rattle.change_protocol.specs.Operations.{HasTypes}
use Rattle.planner_policies.specs.declared.state.PlanState.{PlanState}
use Rattle.planner_policies.specs.Plan.{IsValid, pending_at}
use Rattle.planner_policies.proofs.Shared.{valid-along}
use Rattle.admission.specs.declared.verdict.Verdict.{Verdict}
use Rattle.admission.specs.declared.verdict.Verdict.TheVariants.{Passed}
use Rattle.admission.specs.Verdict.{IsVerdict, plan_from, trail_of}
use Rattle.master_core.specs.declared.answer.Answer.{Answer}
use Rattle.master_core.specs.declared.answer.Made.{Made}
use Rattle.master_core.specs.declared.apart.Snapshot.{Snapshot}
use Rattle.master_core.specs.declared.event.Event.{Event}
use Rattle.master_core.specs.declared.event.Event.TheVariants.{Submit}
use Rattle.master_core.specs.Answers.{AreKept, AreMadeAs, IsAnswerAs, IsPlannedFrom, answer_at, is_passed_by}
use Rattle.master_core.specs.CorePlans.{CorePlannedView}
use Rattle.master_core.specs.Cores.{CoreView, IsCore, IsPrunedBefore, IsStateAs}
use Rattle.master_core.specs.History.{IsRightAnswer, IsSince, accepted_of, next_of, placed_of, plan_of}
use Rattle.master_core.specs.Apart.{IsPlannable, snapshot_of}
use Rattle.master_core.specs.Kept.{CanSettleKept, IsKeptSnapshotIn, IsSettledAs, all_of, kept_behind, kept_from, lean_of, state_after}
use Rattle.master_core.proofs.CorePlans.{submit-same, view}
use Rattle.master_core.proofs.CoreSteps.{made-to}
use Rattle.master_core.proofs.Legal.{sound-of_legal, valid-of_legal}
use Rattle.master_core.proofs.Onward.{later-pending, left-pending}
use Rattle.master_core.proofs.Settling.{gone, next-append, none-behind, same-placed, since-then, still}
use Rattle.master_core.proofs.States.{TrailLaw, VerdictLaw, left-of, verdict-held}

-- The state of the plan

same-state : (one other : PlanState) → one.cycle ≡ other.cycle → one.pending ≡ other.pending → one ≡ other
same-state one other cycle_is pending_is = grind arith

pub state-is : (history : List Event) (core : CoreView) → IsStateAs true history core → (state : PlanState) → state.cycle ≡ core.cycle → state.pending ≡ core.pending
    → state ≡ state_after core.rules history
state-is history core of state cycle_is pending_is = grind (arith, same-state)

-- What the nodes are to learn

some-if : (list : List Placed) (b : Bool) → is_some (if b then Some list else None) ≡ b
some-if list b = grind arith

-- All placed entries, where all events are kept

pub all-is : (keeps : Bool) (history : List Event) (all : List Placed) → keeps ≡ true → Some all ≡ all_of keeps history → all ≡ placed_of history
all-is keeps history all on is = grind (arith, same_Some)

pub all-none : (keeps : Bool) (history : List Event) → keeps ≡ true → None ≡ all_of keeps history → ⊥
all-none keeps history on is =
    absurd (cc)

-- What is planned from them

pub snapshot-is : (history : List Event) (core : CoreView) → IsStateAs true history core → record {
  rules = core.rules;
  placed = placed_of history;
  state = record { cycle = core.cycle; pending = core.pending };
  accepted = core.accepted;
} ≡ snapshot_of core.rules history
snapshot-is history core of = rw (of.waiting, of.counted, of.next) refl

pub plannable-is : (history : List Event) (core : CoreView) → IsCore core → IsStateAs true history core → IsPlannable (record {
  rules = core.rules;
  placed = placed_of history;
  state = record { cycle = core.cycle; pending = core.pending };
  accepted = core.accepted;
})
plannable-is history core is of = record {
  rules = is.safe.in_range;
  well_placed = (sound-of_legal core.rules history of.legal).well_placed;
  valid =
      subst (λ (q : ℕ). IsValid (placed_of history) core.cycle q) (sym of.waiting)
      (subst (λ (n : ℕ). IsValid (placed_of history) n (pending_at (plan_of core.rules (placed_of history)) n)) (sym of.next)
      (valid-of_legal core.rules history of.legal));
  next = is.safe.near;
}

-- What an answer leaves

pub told-event : {E : Type 0} (r : Result Verdict E) (old new : List Event) (caller : ℕ) (change : Change) (from : ℕ) (answer : Answer) → answer.change ≡ change
    → answer.from ≡ from → IfOk r (λ verdict. verdict ≡ answer.verdict)
    → OnOk r (new ≡ old ++ Submit caller answer.change answer.from answer.verdict answer.trail ∷ [])
    → IfOk r (λ verdict. (trail : List ℕ) × (new ≡ old ++ Submit caller change from verdict trail ∷ []))
told-event r old new caller change from answer asked first decided is = grind (arith, submit-same)

pub told-placed : {E : Type 0} (r : Result Verdict E) (old new : List Placed) (change : Change) (from : ℕ) (answer : Answer) → answer.change ≡ change
    → answer.from ≡ from → IfOk r (λ verdict. verdict ≡ answer.verdict) → OnOk r (new ≡ kept_behind old answer.from answer.change answer.verdict)
    → IfOk r (λ verdict. new ≡ kept_behind old from change verdict)
told-placed r old new change from answer asked first decided is = grind arith

-- a state that can be planned from can be planned from in another list of which the same entries are not over
pub valid-alike : (cycle : ℕ) (one other : List Placed) (pending : ℕ) → not_over cycle other ≡ not_over cycle one → IsValid one cycle pending → IsValid other cycle pending
valid-alike cycle one other pending left valid slot in' =
    let held = valid slot in' in
    record {
      instance = held.instance;
      found =
          sym (instance_in-not_over cycle other slot cycle (omega arith))
          ∙ ap (λ (l : List Placed). instance_in l slot cycle) left
          ∙ instance_in-not_over cycle one slot cycle (omega arith)
          ∙ held.found;
      before = held.before;
    }

none-kept : (from : ℕ) (made : Option Made) → AreKept true from None made → made ≡ None
none-kept from made kept = grind arith

module _ (core : CoreView) (is : IsCore core) (history : List Event) (of : IsStateAs true history core) where
  abbrev whole : List Placed
  whole = placed_of history

  abbrev set_at : ℕ → ℕ
  set_at n = pending_at (plan_of core.rules whole) n

  whole-well : IsWellPlaced whole
  whole-well = (sound-of_legal core.rules history of.legal).well_placed

  -- the state of each cycle can be planned from
  valid-at : (n : ℕ) → IsValid whole n (set_at n)
  valid-at n =
      let sound = sound-of_legal core.rules history of.legal in
      subst (λ (m : ℕ). IsValid whole m (set_at n)) (zero-add n)
      (valid-along (plan_of core.rules whole) n sound.well_placed (λ slot held. let none = has_bit-none slot in absurd (cc))
      (λ m slot below known. sound.in_time m slot known))

  -- an answer that is planned anew
  pub answered-anew : (change : Change) (first : ℕ) (answer : Answer) → IsAnswerAs true core answer → answer.change ≡ change → answer.from ≡ core.cycle
      → first ≡ next_of history → IsRightAnswer core.rules history answer.change answer.from answer.verdict answer.trail
      → IsSettledAs history core change first answer
  answered-anew change first answer to asked from_is first_is right = grind arith

  -- an answer that was planned from an earlier cycle, behind which no change was accepted
  module _ (answer : Answer) (types : All HasTypes answer.change.ops) (early : answer.from ≤ core.cycle) (since : IsSince history answer.from)
      (held : IsPrunedBefore answer.from whole core.placed)
      (decided : IsVerdict core.rules core.placed (set_at answer.from) answer.from answer.from answer.change answer.verdict)
      (right : IsVerdict core.rules whole (set_at answer.from) answer.from answer.from answer.change answer.verdict)
      (plan : answer.trail ≡ trail_of (plan_from core.rules (applied whole answer.change) answer.from (set_at answer.from)) answer.verdict)
      (makes : (made : Option Made) → AreKept true answer.from answer.made made → AreMadeAs true core (record answer { made = made }) made) where
    left : not_over answer.from core.placed ≡ not_over answer.from whole
    left = left-of true answer.from whole core.placed held

    valid : IsValid core.placed answer.from (set_at answer.from)
    valid = valid-alike answer.from whole core.placed (set_at answer.from) left (valid-at answer.from)

    leads : core.pending ≡ pending_at (plan_from core.rules core.placed answer.from (set_at answer.from)) (core.cycle - answer.from)
    leads =
        let there : answer.from + (core.cycle - answer.from) ≡ core.cycle = omega arith in
        grind (arith, later-pending, zero-add, left-pending, whole-well, left)

    opened : answer.from ≤ next_of history
    opened = let next = of.next in omega arith

    settle-by : (made : Option Made) (b : Bool) → is_passed_by core.cycle answer.change.start answer.verdict ≡ b
        → AreKept true (if b then record answer { verdict = Passed answer.change.start core.cycle; trail = []; made = None } else answer).from
        (if b then record answer { verdict = Passed answer.change.start core.cycle; trail = []; made = None } else answer).made made
        → IsSettledAs history core answer.change answer.from
        (record (if b then record answer { verdict = Passed answer.change.start core.cycle; trail = []; made = None } else answer) { made = made })
    settle-by made true passed kept = grind (arith, valid, leads, gone, none-kept, opened)
    settle-by made false ahead kept = grind (arith, valid, leads, still, opened)

    pub settled-at : (made : Option Made) → AreKept true (answer_at core.cycle answer).from (answer_at core.cycle answer).made made
        → IsSettledAs history core answer.change answer.from (record (answer_at core.cycle answer) { made = made })
    settled-at made kept = settle-by made (is_passed_by core.cycle answer.change.start answer.verdict) refl kept

  -- an answer that was planned at some place of the history, behind which no change was accepted
  module _ (answer : Answer) (front : List Event) (begins : IsPrefix front history) (count : accepted_of front ≡ accepted_of history)
      (from-is : answer.from ≡ next_of front) where
    none : accepted_of begins.0 ≡ 0
    none = none-behind front begins.0 (count ∙ ap accepted_of (sym begins.1))

    pub whole-is : placed_of front ≡ whole
    whole-is = sym (same-placed front begins.0 none) ∙ ap placed_of begins.1

    pub early-then : answer.from ≤ core.cycle
    early-then = grind (arith, next-append)

    pub since-here : IsSince history answer.from
    since-here = subst (IsSince history) (sym from-is) (subst (λ (h : List Event). IsSince h (next_of front)) begins.1 (since-then front begins.0 none))

    pub decided-then : (list : List Placed)
        → IsVerdict core.rules list (pending_at (plan_of core.rules (placed_of front)) (next_of front)) (next_of front) (next_of front) answer.change answer.verdict
        → IsVerdict core.rules list (set_at answer.from) answer.from answer.from answer.change answer.verdict
    decided-then list decided = grind (arith, whole-is)

    pub trail-then : (list : List Placed)
        → answer.trail ≡ trail_of (plan_from core.rules (applied list answer.change) (next_of front) (pending_at (plan_of core.rules (placed_of front)) (next_of front))) answer.verdict
        → answer.trail ≡ trail_of (plan_from core.rules (applied list answer.change) answer.from (set_at answer.from)) answer.verdict
    trail-then list plan = grind (arith, whole-is)

  -- an answer that was planned from the kept entries
  module _ (verdicts : VerdictLaw) (trails : TrailLaw) (snapshot : Snapshot) (answer : Answer) (was : IsPlannedFrom snapshot.rules snapshot.placed snapshot.state answer)
      (spare : ℕ) (keeps : Bool) (rules_are : snapshot.rules ≡ core.rules) (place : IsKeptSnapshotIn (lean_of core history spare keeps) snapshot) where
    planned : IsPlannedFrom core.rules core.placed (state_after core.rules place.front) answer
    planned = grind arith

    held-then : IsPrunedBefore answer.from whole core.placed
    held-then =
        subst (λ (n : ℕ). IsPrunedBefore n whole core.placed) (sym planned.from)
        (subst (λ (w : List Placed). IsPrunedBefore (next_of place.front) w core.placed) (whole-is answer place.front place.begins place.count planned.from) place.held)

    pub kept-settled : (made : Option Made) → AreKept true (answer_at core.cycle answer).from (answer_at core.cycle answer).made made
        → IsSettledAs history core answer.change answer.from (record (answer_at core.cycle answer) { made = made })
    kept-settled made kept =
        let decided = decided-then answer place.front place.begins place.count planned.from core.placed planned.decided.answer in
        let on_whole =
        verdict-held verdicts trails core.rules whole core.placed whole-well is.safe.in_range.few_slots answer.change planned.types answer.from (set_at answer.from)
        answer.from answer.verdict decided true held-then in
        settled-at answer planned.types (early-then answer place.front place.begins place.count planned.from)
        (since-here answer place.front place.begins place.count planned.from) held-then decided on_whole.0
        (trail-then answer place.front place.begins place.count planned.from core.placed planned.decided.plan ∙ on_whole.1)
        (λ m by. made-to core is true (record answer { made = m }) answer.made m planned.decided.list planned.made by) made kept

-- the cycle from which it is planned

moved : (history : List Event) (core : CoreView) (change : Change) (first other : ℕ) (answer : Answer) → first ≡ other → IsSettledAs history core change first answer
    → IsSettledAs history core change other answer
moved history core change first other answer same by = subst (λ (n : ℕ). IsSettledAs history core change n answer) same by

pub from-then : (history : List Event) (planned : CorePlannedView) → planned.snapshot.accepted ≡ accepted_of history → planned.snapshot.state.cycle ≡ kept_from history planned
from-then history planned same = grind (arith, planned, eq-eqb)

-- a plan from a snapshot of the kept entries is settled by that plan
pub kept-by_plan : (core : CoreView) → IsCore core → VerdictLaw → TrailLaw → (snapshot : Snapshot) (answer : Answer) → IsPlannedFrom snapshot.rules snapshot.placed snapshot.state answer
    → snapshot.accepted ≡ core.accepted → (made : Option Made) → AreKept true (answer_at core.cycle answer).from (answer_at core.cycle answer).made made
    → (history : List Event) (spare : ℕ) (keeps : Bool) → IsStateAs true history core → CanSettleKept (lean_of core history spare keeps) (view snapshot answer)
    → IsSettledAs history core answer.change (kept_from history (view snapshot answer)) (record (answer_at core.cycle answer) { made = made })
kept-by_plan core is verdicts trails snapshot answer was same made kept history spare keeps of can =
    let counted = same ∙ of.counted in
    moved history core answer.change _ _ _ (was.from ∙ from-then history (view snapshot answer) counted)
    (kept-settled core is history of verdicts trails snapshot answer was spare keeps can.rules (can.place counted) made kept)

-- and it is planned anew where another change was accepted since
pub kept-anew : (core : CoreView) → IsCore core → (snapshot : Snapshot) (answer anew : Answer) → (snapshot.accepted ≡ core.accepted → ⊥) → IsAnswerAs true core anew
    → anew.change ≡ answer.change → anew.from ≡ core.cycle
    → ((held : Bool) (history : List Event) → IsStateAs held history core → IsRightAnswer core.rules history anew.change anew.from anew.verdict anew.trail)
    → (history : List Event) → IsStateAs true history core → IsSettledAs history core answer.change (kept_from history (view snapshot answer)) anew
kept-anew core is snapshot answer anew apart to asked from_is right history of =
    answered-anew core is history of answer.change (kept_from history (view snapshot answer)) anew to asked from_is
    (grind (arith, ne_eqb))
    (right true history of)
