-- What is decided of a list, by what was found in the walk over its planning.
use Rattle.std.proofs.Common.{◌≡◌, ℕ, ◌+◌, ◌<◌, ◌≤◌, true, false, Option, Some, None, IfOk, Result, List, [], refl, sym, ap, ◌∙◌, subst, arith}
use Rattle.requirement_table.specs.declared.entries.Placed.{Placed}
use Rattle.bit_sets.specs.Sets.{has_bit}
use Rattle.requirement_table.specs.Table.{IsWellPlaced, not_over}
use Rattle.requirement_table.proofs.Shared.{not_over-well_placed}
use Rattle.planner_policies.specs.declared.state.Miss.{Miss as MissedInstance}
use Rattle.planner_policies.specs.declared.state.PlanState.{PlanState}
use Rattle.planner_policies.specs.Plan.{HasNoMiss, IsValid, NeverMisses, Planning, Ranking, planning_of}
use Rattle.recurrence_check.specs.Course.{Breaks, Course, IsLeastRepeat, StaysNew}
use Rattle.admission.specs.declared.decision.Decision.{Decision}
use Rattle.admission.specs.declared.decision.RankedTable.{RankedTable}
use Rattle.admission_rules.specs.declared.Rules.{Rules}
use Rattle.admission.specs.declared.verdict.Verdict.{Verdict}
use Rattle.admission.specs.declared.verdict.Verdict.TheVariants.{Accepted, Horizon, Miss}
use Rattle.admission.specs.Certified.{IsMissBehind}
use Rattle.admission.specs.Course.{course_of, is_held_from}
use Rattle.admission.specs.Judged.{IsRankedFrom}
use Rattle.admission.specs.Period.{IsPeriodUpTo}
use Rattle.admission.specs.Recurrence.{HasNoRecurrence, bound_of}
use Rattle.admission.specs.Verdict.{IsDecisionOnPlan, IsMissDecision, IsPlannedUpTo, IsSafe, IsTakenWhereDue, IsVerdictOnPlan, masks_of, plan_from, ranking_by}
use Rattle.admission.specs.WalkLaws.{GoesOnAlike}
use Rattle.admission.specs.Walked.{IsWalked}
use Rattle.admission.proofs.Complete.{recurs}
use Rattle.admission.proofs.Cycles.{IsLike, like-refl, like-sym, same-masks, same-no_miss}
use Rattle.admission.proofs.Reduced.{decision-reduced, held-reduced, like-reduced, miss-reduced, repeating-reduced}
use Rattle.admission.proofs.Repeats.{is-recurrence, never-after, no-recurrence, none-within}
use Rattle.admission.proofs.Same.{goes-on, held-tests}
use Rattle.admission.proofs.States.{broken-missed, broken-none, came-to}

abbrev ranking_of : Rules → List Placed → ℕ → Ranking
ranking_of rules list from = ranking_by rules (not_over from list)

module _ (rules : Rules) (list : List Placed) (from pending : ℕ) (walked : Ranking) (window : ℕ) (first : PlanState) (bound : ℕ) (period : Option ℕ)
    (is : IsWalked rules list from pending walked window first bound period) where
  abbrev pub whole : Planning
  whole = plan_from rules list from pending

  abbrev pub walk : Course PlanState
  walk = course_of walked window first bound period

  abbrev pub reduced : Course PlanState
  reduced = course_of (ranking_of rules list from) rules.window (record { cycle = from; pending = pending }) bound period

  to-reduced : (P : Course PlanState → Type 0) → P walk → P reduced
  to-reduced P holds = grind arith

  abbrev pub walked_plan : Planning
  walked_plan = planning_of walked window first.cycle first.pending

  abbrev pub reduced_plan : Planning
  reduced_plan = planning_of (ranking_of rules list from) rules.window from pending

  to-reduced_plan : (P : Planning → Type 0) → P walked_plan → P reduced_plan
  to-reduced_plan P holds = grind arith

  from-reduced_plan : (P : Planning → Type 0) → P reduced_plan → P walked_plan
  from-reduced_plan P holds = grind arith

  like : (n : ℕ) → IsLike rules.policy (not_over from list) list (from + n) (from + n)
  like n = like-reduced rules.policy list from n is.well

  -- a repeat
  pub accepted-never : (one other : ℕ) → IsLeastRepeat walk one other → NeverMisses whole
  accepted-never one other least =
      let here = to-reduced (λ course. IsLeastRepeat course one other) least in
      never-after (ranking_of rules list from) list rules.window from pending bound rules.horizon period is.known like is.bound_is is.period_is
      is.well one other here.repeats

  -- what the repeat says of the planning
  pub repeats-on : (number length : ℕ) → IsLeastRepeat walk number (number + length) → number + length ≤ rules.horizon
      → IsVerdictOnPlan rules.horizon whole (Accepted (from + number) length)
  repeats-on number length least within =
      let here = to-reduced (λ course. IsLeastRepeat course number (number + length)) least in
      let never = accepted-never number (number + length) least in (
        (λ m slot below. never m slot),
        is-recurrence (ranking_of rules list from) list rules.window from pending bound rules.horizon period is.known like is.bound_is is.period_is
            never number length here,
        omega arith,
      )

  pub accepted : (number length : ℕ) (decision : Decision) → IsLeastRepeat walk number (number + length) → number + length ≤ rules.horizon
      → decision.verdict ≡ Accepted (from + number) length → decision.placed ≡ Some list → decision.trail ≡ []
      → IsDecisionOnPlan rules.horizon whole decision
  accepted number length decision least within verdict placed trail = grind (arith, repeats-on)

  -- nothing is missed up to it, and what is planned of the entries that are walked is the plan of all
  pub repeated-none : (one other : ℕ) → IsLeastRepeat walk one other → HasNoMiss walked_plan other
  repeated-none one other least =
      let here = to-reduced (λ course. IsLeastRepeat course one other) least in
      from-reduced_plan (λ plan. HasNoMiss plan other)
      (came-to (ranking_of rules list from) (not_over from list) rules.window from pending bound period is.known
      (λ n. like-refl rules.policy (not_over from list) (from + n)) other here.repeats.again here.repeats.again_is)

  pub planned-whole : (number : ℕ) (masks : List ℕ) (behind : PlanState) → IsPlannedUpTo walked_plan number masks behind → masks ≡ masks_of whole number
  planned-whole number masks behind planned = grind (arith, to-reduced_plan, same-masks, like)

  -- where nothing of the whole list is missed, nothing is missed of the entries that are walked
  pub none-walked : (n : ℕ) → HasNoMiss whole n → HasNoMiss walked_plan n
  none-walked n none =
      from-reduced_plan (λ plan. HasNoMiss plan n)
      (same-no_miss (ranking_by rules list) (not_over from list) rules.window from pending n
      (λ m below. like-sym rules.policy (not_over from list) list (from + m) (from + m) (like m)) none)

  pub safe : (one other : ℕ) (placed : List Placed) → placed ≡ list → IsLeastRepeat walk one other → IsSafe rules placed from pending
  safe one other placed same least =
      subst (λ l. IsSafe rules l from pending) (sym same)
      (record { well_placed = is.well; held = is.valid; in_time = accepted-never one other least })

  -- what is ranked of the list is what was walked
  pub ranked-from : (table : RankedTable) → table.placed ≡ list
      → table.planner ≡ record { ranking = ranking_of rules list from; cycle = from; pending = pending } → IsRankedFrom rules from pending table
  ranked-from table same stands = grind (arith, held-reduced)

  -- no repeat
  no-recurrence-whole : StaysNew walk rules.horizon → HasNoRecurrence whole rules.horizon
  no-recurrence-whole stays =
      no-recurrence (ranking_of rules list from) list rules.window from pending bound rules.horizon period is.known like is.bound_is is.period_is
      (to-reduced (λ course. StaysNew course rules.horizon) stays)

  pub stays-on : (number : ℕ) → number ≡ rules.horizon → StaysNew walk number → IsVerdictOnPlan rules.horizon whole (Horizon from number)
  stays-on number all stays =
      let here : StaysNew walk rules.horizon = subst (λ n. StaysNew walk n) all stays in (
        none-within (ranking_of rules list from) list rules.window from pending bound rules.horizon period is.known like is.bound_is is.period_is
            (to-reduced (λ course. StaysNew course rules.horizon) here),
        no-recurrence-whole here,
        refl,
        all,
      )

  pub refused : (number : ℕ) (decision : Decision) → number ≡ rules.horizon → StaysNew walk number → decision.verdict ≡ Horizon from number
      → decision.placed ≡ None → decision.trail ≡ [] → IsDecisionOnPlan rules.horizon whole decision
  refused number decision all stays verdict placed trail = grind (arith, stays-on)

  pub refused-due : (number : ℕ) (verdict : Verdict) → number ≡ rules.horizon → StaysNew walk number → IsTakenWhereDue rules whole verdict
  refused-due number verdict all stays never c period' settled releases least within =
      let here : StaysNew walk rules.horizon = subst (λ n. StaysNew walk n) all stays in
      absurd (recurs whole rules.horizon is.well is.valid never c period' settled releases least within (no-recurrence-whole here))

  -- a miss
  pub walked-none : (at : ℕ) → Breaks walk at → HasNoMiss walked_plan at
  walked-none at breaks =
      from-reduced_plan (λ plan. HasNoMiss plan at)
      (broken-none (ranking_of rules list from) (not_over from list) rules.window from pending bound period is.known
      (λ n. like-refl rules.policy (not_over from list) (from + n)) at (to-reduced (λ course. Breaks course at) breaks))

  pub walked-missed : (at : ℕ) → Breaks walk at → ¬ HasNoMiss walked_plan (at + 1)
  walked-missed at breaks =
      from-reduced_plan (λ plan. ¬ HasNoMiss plan (at + 1))
      (broken-missed (ranking_of rules list from) (not_over from list) rules.window from pending bound period is.known
      (λ n. like-refl rules.policy (not_over from list) (from + n)) at (to-reduced (λ course. Breaks course at) breaks))

  whole-none : (at : ℕ) → Breaks walk at → HasNoMiss whole at
  whole-none at breaks =
      broken-none (ranking_of rules list from) list rules.window from pending bound period is.known like at
      (to-reduced (λ course. Breaks course at) breaks)

  whole-miss : (at : ℕ) (decision : Decision) → IsMissDecision walked_plan at decision → IsMissDecision whole at decision
  whole-miss at decision miss =
      decision-reduced (ranking_by rules list) rules.window from pending at is.well decision
      (to-reduced_plan (λ plan. IsMissDecision plan at decision) miss)

  on-miss : (at : ℕ) (decision : Decision) → at < rules.horizon → HasNoMiss whole at → IsMissDecision whole at decision
      → IsDecisionOnPlan rules.horizon whole decision
  on-miss at decision within none miss = grind arith

  pub missed : (at : ℕ) (decision : Decision) → at < rules.horizon → Breaks walk at → IsMissDecision walked_plan at decision
      → IsDecisionOnPlan rules.horizon whole decision
  missed at decision within breaks miss = on-miss at decision within (whole-none at breaks) (whole-miss at decision miss)

  pub missed-due : (at : ℕ) (decision : Decision) → IsMissDecision walked_plan at decision → IsTakenWhereDue rules whole decision.verdict
  missed-due at decision miss never c period' settled releases least within =
      let here = whole-miss at decision miss in
      let is' = here.miss.missed in
      let not = never at here.slot here.miss.known in
      absurd (let both : true ≡ false = sym is' ∙ not in cc)

  pub breaks-on : (at : ℕ) (miss : MissedInstance) → at < rules.horizon → Breaks walk at → IsMissBehind walked_plan at miss
      → IsVerdictOnPlan rules.horizon whole (Miss miss.slot miss.release miss.cycle)
  breaks-on at miss within breaks behind =
      let here = to-reduced_plan (λ plan. IsMissBehind plan at miss) behind in
      let cycle : miss.cycle ≡ from + at = here.cycle in (
        record {
          number = at;
          at = cycle;
          none_before = whole-none at breaks;
          miss = miss-reduced (ranking_by rules list) rules.window from pending at is.well miss.slot miss.release here.at;
        },
        omega arith,
      )

-- what a walk over the planning needs
module _ (rules : Rules) (list : List Placed) (walked : Ranking) (from pending : ℕ) (walked_is : walked ≡ ranking_of rules list from)
    (well : IsWellPlaced list) where
  pub walked-held : IsValid list from pending → (slot : ℕ) → has_bit pending slot ≡ true → is_held_from walked.placed from slot ≡ true
  walked-held h0 slot h1 = grind (arith, held-tests, held-reduced)

  pub walked-positive : (period : Option ℕ) → IsPeriodUpTo rules.horizon list period → (length : ℕ) → period ≡ Some length → 0 < length
  walked-positive period period_is length found = (repeating-reduced from rules.horizon length list period well period_is found).positive

  pub walked-goes_on : (window bound : ℕ) (period : Option ℕ) → bound ≡ bound_of from list → IsPeriodUpTo rules.horizon list period
      → GoesOnAlike walked window bound period
  walked-goes_on window bound period bound_is period_is =
      subst (λ b. GoesOnAlike walked window b period) (sym bound_is)
      (subst (λ r. GoesOnAlike r window (bound_of from list) period) (sym walked_is)
      (goes-on (ranking_of rules list from) window (bound_of from list) period
      (λ length found. repeating-reduced from rules.horizon length list period well period_is found)))

pub reduced-well_placed : (list left : List Placed) (from : ℕ) → left ≡ not_over from list → IsWellPlaced list → IsWellPlaced left
reduced-well_placed list left from is well = subst IsWellPlaced (sym is) (not_over-well_placed from list well)

pub ranked-is : (rules : Rules) (list left : List Placed) (from : ℕ) (walked : Ranking) → left ≡ not_over from list
    → walked ≡ ranking_by rules left → walked ≡ ranking_by rules (not_over from list)
ranked-is rules list left from walked is ranked = ranked ∙ ap (ranking_by rules) is

if-ok : {X E : Type 0} (r : Result X E) (P Q : X → Type 0) → ((x : X) → P x → Q x) → IfOk r P → IfOk r Q
if-ok r P Q weaker holds = grind arith

pub if_ok-weaker : {X E : Type 0} (r : Result X E) (P Q : X → Type 0) → IfOk r P → ((x : X) → P x → Q x) → IfOk r Q
if_ok-weaker r P Q holds weaker = if-ok r P Q weaker holds

pub on-list : {rules : Rules} {one : List Placed} {from pending : ℕ} {walked : Ranking} {window : ℕ} {first : PlanState} {bound : ℕ} {period : Option ℕ}
    → (other : List Placed) → one ≡ other → IsWalked rules one from pending walked window first bound period
    → IsWalked rules other from pending walked window first bound period
on-list other same is = grind arith
