-- Answers that are not in the history yet.
use Rattle.std.specs.Prelude.{◌≡◌, ℕ, Bool, false, true, nat_lt, ◌+◌, ◌-◌, ◌^◌, ◌<◌, ◌≤◌, ◌⊎◌, if◌then◌else◌, List, [], Option, Some}
use Rattle.std.specs.Prelude.{None, All, length, option_map}
use Rattle.requirement_table.specs.declared.entries.Placed.{Placed}
use Rattle.requirement_table.specs.Table.{not_over}
use Rattle.change_protocol.specs.Applied.{applied}
use Rattle.change_protocol.specs.Operations.{HasTypes}
use Rattle.planner_policies.specs.Plan.{IsValid, pending_at}
use Rattle.planner_policies.specs.declared.state.PlanState.{PlanState}
use Rattle.admission_rules.specs.declared.Rules.{Rules}
use Rattle.admission.specs.declared.decision.Decision.{Decision}
use Rattle.admission.specs.declared.verdict.Verdict.{Verdict}
use Rattle.admission.specs.declared.verdict.Verdict.TheVariants.{Malformed, Passed, Miss, Horizon, Accepted}
use Rattle.admission.specs.Verdict.{IsDecision, IsVerdict, is_accepted, plan_from, ranking_by}
use Rattle.master_core.specs.declared.answer.Answer.{Answer}
use Rattle.master_core.specs.declared.answer.Made.{Made}
use Rattle.master_core.specs.declared.event.Event.{Event}
use Rattle.master_core.specs.declared.table.Table.{Table}
use Rattle.master_core.specs.Cores.{CoreView, kept_by, most_kept}
use Rattle.master_core.specs.History.{IsRightAnswer, placed_of}

-- what an accepted change makes: the list to which it was applied, to be planned from the cycle `from` on, and the same
-- list to be learned
pub record IsMadeOf (rules : Rules) (history : List Event) (answer : Answer) (made : Made) : Type 0 where
  pub accepted : is_accepted answer.verdict ≡ true
  pub placed : made.table.placed.items ≡ applied (placed_of history) answer.change
  pub since : made.table.since ≡ answer.from
  pub ranked : made.table.planner.ranking ≡ ranking_by rules (not_over made.table.since made.table.placed.items)
  pub learned : made.learned ≡ made.table.placed.items

-- an accepted change makes a list, and another one makes nothing
abbrev pub IsMade : Rules → List Event → Answer → Option Made → Type 0
IsMade rules history answer None = is_accepted answer.verdict ≡ false
IsMade rules history answer (Some made) = IsMadeOf rules history answer made

-- the answer is right after this history, and has what it makes
pub record IsAnswer (rules : Rules) (history : List Event) (answer : Answer) : Type 0 where
  pub right : IsRightAnswer rules history answer.change answer.from answer.verdict answer.trail
  pub made : IsMade rules history answer answer.made

-- what is made of a list that is planned by these rules from a cycle on: the table, and the list to be learned
pub record IsTableOf (rules : Rules) (from : ℕ) (made : Made) : Type 0 where
  pub placed : made.table.placed.items ≡ made.learned
  pub since : made.table.since ≡ from
  pub ranked : made.table.planner.ranking ≡ ranking_by rules (not_over from made.learned)

abbrev pub AreTablesOf : Rules → ℕ → Option Made → Type 0
AreTablesOf rules from None = Unit {0}
AreTablesOf rules from (Some made) = IsTableOf rules from made

-- the decision that an answer has
abbrev pub decision_of : Answer → Decision
decision_of answer = record {
  verdict = answer.verdict;
  placed = option_map (λ made. made.learned) answer.made;
  trail = answer.trail;
}

-- an answer as it is planned from a list and a state, with all that is made of it
pub record IsPlannedFrom (rules : Rules) (placed : List Placed) (state : PlanState) (answer : Answer) : Type 0 where
  pub types : All HasTypes answer.change.ops
  pub from : answer.from ≡ state.cycle
  pub decided : IsDecision rules placed state.pending state.cycle answer.change (decision_of answer)
  pub made : AreTablesOf rules answer.from answer.made

-- whether a verdict of this kind is given of no change whose start has passed when `next` is the next cycle
abbrev pub is_passed_by : ℕ → ℕ → Verdict → Bool
is_passed_by next start (Malformed op why) = false
is_passed_by next start (Passed before opened) = nat_lt start next
is_passed_by next start (Miss slot release cycle) = nat_lt start next
is_passed_by next start (Horizon from walked) = nat_lt start next
is_passed_by next start (Accepted first length) = nat_lt start next

-- the answer when `next` is the next cycle: a change that breaks no rule and whose start has passed by then is refused
-- for that, and makes nothing
abbrev pub answer_at : ℕ → Answer → Answer
answer_at next answer =
    if is_passed_by next answer.change.start answer.verdict
    then record answer { verdict = Passed answer.change.start next; trail = []; made = None }
    else answer

-- what was made stands in the place of the table and of the list to be learned; where nothing was made, both stay
abbrev pub IsTakenOver : Option Made → Table → Table → Option (List Placed) → Option (List Placed) → Type 0
IsTakenOver None old new old_learned new_learned = (new ≡ old) × (new_learned ≡ old_learned)
IsTakenOver (Some made) old new old_learned new_learned = (new ≡ made.table) × (new_learned ≡ Some made.learned)

-- what is kept of what was made, planned from a cycle on: the lists that are kept of both lists
pub record IsMadeKept (forgets : Bool) (from : ℕ) (made kept : Made) : Type 0 where
  pub placed : kept.table.placed.items ≡ kept_by forgets from made.table.placed.items
  pub since : kept.table.since ≡ made.table.since
  pub ranked : kept.table.planner.ranking ≡ made.table.planner.ranking
  pub learned : kept.learned ≡ kept_by forgets from made.learned

abbrev pub AreKept : Bool → ℕ → Option Made → Option Made → Type 0
AreKept forgets from None None = Unit {0}
AreKept forgets from None (Some kept) = ⊥
AreKept forgets from (Some made) None = ⊥
AreKept forgets from (Some made) (Some kept) = IsMadeKept forgets from made kept

-- how many entries the list has that is made
abbrev pub entries_of : Option Made → ℕ
entries_of None = 0
entries_of (Some made) = length made.table.placed.items

-- what an accepted change makes of a core: the list with the change applied, whole or pruned, and the same list to be
-- learned
pub record IsMadeAs (prunes : Bool) (core : CoreView) (answer : Answer) (made : Made) : Type 0 where
  pub accepted : is_accepted answer.verdict ≡ true
  pub placed : made.table.placed.items ≡ kept_by prunes answer.from (applied core.placed answer.change)
  pub since : made.table.since ≡ answer.from
  pub ranked : made.table.planner.ranking
      ≡ ranking_by core.rules (not_over made.table.since made.table.placed.items)
  pub learned : made.learned ≡ made.table.placed.items

abbrev pub AreMadeAs : Bool → CoreView → Answer → Option Made → Type 0
AreMadeAs prunes core answer None = is_accepted answer.verdict ≡ false
AreMadeAs prunes core answer (Some made) = IsMadeAs prunes core answer made

-- the answer is one to this core, and what it makes is whole or pruned: the change was planned from a cycle that is not
-- above the next one, and the plan from that cycle on leads to the state of the core
pub record IsAnswerAs (prunes : Bool) (core : CoreView) (answer : Answer) : Type 0 where
  pub types : All HasTypes answer.change.ops
  pub early : answer.from ≤ core.cycle
  pub pending : ℕ
  pub held : IsValid core.placed answer.from pending
  pub leads : core.pending
      ≡ pending_at (plan_from core.rules core.placed answer.from pending) (core.cycle - answer.from)
  pub verdict : IsVerdict core.rules core.placed pending answer.from core.cycle answer.change answer.verdict
  pub made : AreMadeAs prunes core answer answer.made

-- what it makes is what the core keeps: pruned where it forgets
abbrev pub IsAnswerTo : CoreView → Answer → Type 0
IsAnswerTo core answer = IsAnswerAs core.forgets core answer

-- the list of a core that forgets would have too many entries where the change is accepted
pub record IsListFull (core : CoreView) (answer : Answer) : Type 0 where
  pub forgets : core.forgets ≡ true
  pub long : most_kept < length (kept_by core.forgets answer.from (applied core.placed answer.change))

-- *No room*: the answer accepts the change, and one change more can't be counted, or the list would be too long
pub record HasNoRoom (core : CoreView) (answer : Answer) : Type 0 where
  pub accepted : is_accepted answer.verdict ≡ true
  pub full : (2 ^ 64 ≤ core.accepted + 1) ⊎ IsListFull core answer
