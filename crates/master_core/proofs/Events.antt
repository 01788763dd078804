-- What each call keeps of a master.
use Rattle.std.proofs.Common.{◌≡◌, ℕ, ◌+◌, ◌-◌, ◌≤◌, Bool, false, cond, if◌then◌else◌, List, [], ◌∷◌, ◌++◌, Option, Some, None, length, length-append, ◌∙◌, add-zero, arith}
use Rattle.std.proofs.lemmas.Grind.{common_steps}
use Rattle.std.proofs.lemmas.List.Sums.{count_by-le-length, sum_by_push}
use mir.Val.{bool_byte}
use Rattle.requirement_table.specs.declared.entries.Placed.{Placed}
use Rattle.planner_policies.specs.Plan.{Ranking}
use Rattle.admission_rules.specs.declared.Rules.{Rules}
use Rattle.admission.specs.Verdict.{is_accepted}
use Rattle.master_core.specs.declared.event.Event.{Event}
use Rattle.master_core.specs.declared.event.Event.TheVariants.{Submit}
use Rattle.master_core.specs.declared.answer.Answer.{Answer}
use Rattle.master_core.specs.declared.answer.Made.{Made}
use Rattle.master_core.specs.declared.table.Table.{Table}
use Rattle.master_core.specs.Answers.{IsMade, IsMadeOf, IsTakenOver}
use Rattle.master_core.specs.History.{IsLegal, IsRightAnswer, accepted_of, accepts, is_changed, is_changed_after, learned_of, next_of, placed_after, placed_of}
use Rattle.master_core.specs.Keeping.{HasEventRoom, IsMasterKept}
use Rattle.master_core.proofs.Earlier.{same-of_legal}
use Rattle.master_core.proofs.Histories.{is_changed-push, legal-push, next_of-push, placed_of-push}

pub learned_of-push : (history : List Event) (event : Event) → learned_of (history ++ event ∷ [])
    ≡ (if is_changed_after (is_changed history) event then Some (placed_after (placed_of history) event) else None)
learned_of-push history event = grind (arith, is_changed-push, placed_of-push)

module _ (rules : Rules) (history : List Event) (list : List Placed) (since : ℕ) (ranked : Ranking) (cycle pending : ℕ) (learned : Option (List Placed))
    (kept : IsMasterKept rules history list since ranked cycle pending learned) where
  -- an answer that is right after the history is put behind it
  module _ (caller : ℕ) (answer : Answer) (right : IsRightAnswer rules history answer.change answer.from answer.verdict answer.trail) where
    abbrev event : Event
    event = Submit caller answer.change answer.from answer.verdict answer.trail

    pub legal-put : IsLegal rules (history ++ event ∷ [])
    legal-put = legal-push rules history event kept.legal right

    next-then : next_of (history ++ event ∷ []) ≡ next_of history
    next-then = next_of-push history event ∙ add-zero (next_of history)

    kept-refused : is_accepted answer.verdict ≡ false → IsMasterKept rules (history ++ event ∷ []) list since ranked cycle pending learned
    kept-refused refused = grind (arith, legal-put, placed_of-push, next-then, learned_of-push)

    kept-taken : (made : Made) → IsMadeOf rules history answer made
        → IsMasterKept rules (history ++ event ∷ []) made.table.placed.items made.table.since made.table.planner.ranking cycle pending (Some made.learned)
    kept-taken made is =
        let same = same-of_legal rules history event kept.legal right in
        grind (arith, placed_of-push, legal-put, next-then, common_steps, learned_of-push)

    pub kept-put : (made : Option Made) (old new : Table) (old_learned new_learned : Option (List Placed)) → IsMade rules history answer made
        → IsTakenOver made old new old_learned new_learned → list ≡ old.placed.items → since ≡ old.since → ranked ≡ old.planner.ranking → learned ≡ old_learned
        → IsMasterKept rules (history ++ event ∷ []) new.placed.items new.since new.planner.ranking cycle pending new_learned
    kept-put None old new old_learned new_learned refused same list_is since_is ranked_is learned_is = grind (arith, kept-refused)
    kept-put (Some made) old new old_learned new_learned is taken list_is since_is ranked_is learned_is = rw (taken.0, taken.1) (kept-taken made is)

-- the room

pub room-used : (history : List Event) (event : Event) (room wider spare : ℕ) → HasEventRoom (length history) room spare → 1 ≤ spare → room ≤ wider
    → HasEventRoom (length (history ++ event ∷ [])) wider (spare - 1)
room-used history event room wider spare has some wide = grind (arith, length-append)

-- the number of accepted changes

pub accepted_of-push : (history : List Event) (event : Event) → accepted_of (history ++ event ∷ []) ≡ accepted_of history + cond (accepts event) 1 0
accepted_of-push history event = sum_by_push (λ e. cond (accepts e) 1 0) history event

pub not-counted : (history : List Event) (event : Event) (accepted : ℕ) → accepts event ≡ false → accepted ≡ accepted_of history
    → accepted ≡ accepted_of (history ++ event ∷ [])
not-counted history event accepted refused is = grind (arith, accepted_of-push, add-zero)

one-more : (b : Bool) → bool_byte b ≡ cond b 1 0
one-more b = grind arith

pub counted : (history : List Event) (caller : ℕ) (answer : Answer) (accepted more : ℕ) → accepted ≡ accepted_of history
    → more ≡ bool_byte (is_accepted answer.verdict) → accepted + more
    ≡ accepted_of (history ++ Submit caller answer.change answer.from answer.verdict answer.trail ∷ [])
counted history caller answer accepted more is one = grind (arith, one-more, accepted_of-push)

pub few-accepted : (history : List Event) (accepted : ℕ) → accepted ≡ accepted_of history → accepted ≤ length history
few-accepted history accepted is = let few = count_by-le-length accepts history in omega arith
