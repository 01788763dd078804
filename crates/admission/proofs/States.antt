-- The states that a walk over a planning comes to.
use Rattle.std.proofs.Common.{◌≡◌, ℕ, zero, suc, ◌+◌, ◌^◌, ◌<◌, false, nat_eq, Option, Some, None, List, sym, ◌∙◌, subst, arith, add-one}
use Rattle.std.proofs.lemmas.Bool.{cases_lt, eq-eqb, eqb-true}
use Rattle.std.proofs.lemmas.Option.{cond_some, same_Some}
use Rattle.requirement_table.specs.declared.entries.Placed.{Placed}
use Rattle.bit_sets.specs.Sets.{has_bit, set_of, most_slots}
use Rattle.bit_sets.proofs.Shared.{set_of-has_bit, set_of-same, set_of-none}
use Rattle.planner_policies.specs.declared.state.PlanState.{PlanState}
use Rattle.planner_policies.specs.Plan.{HasNoMiss, Planning, Ranking, is_missed_at, is_missed_in, left_after, pending_at, pending_before, planning_of}
use Rattle.recurrence_check.specs.Course.{Breaks, Course, state_after}
use Rattle.recurrence_check.proofs.Shared.{state_after-next, state_after-start, state_before}
use Rattle.admission.specs.Course.{course_of, left_from, missed_from, state_at, state_behind}
use Rattle.admission.proofs.Cycles.{IsLike, agree-set, like-left, like-missed, none-set}

-- a walk over a list that is alike in each cycle to the one that is planned
module _ (ranking : Ranking) (placed : List Placed) (window from pending bound : ℕ) (period : Option ℕ)
    (known : pending < 2 ^ most_slots) (like : (n : ℕ) → IsLike ranking.policy ranking.placed placed (from + n) (from + n)) where
  abbrev pub plan : Planning
  plan = planning_of (record ranking { placed = placed }) window from pending

  abbrev pub course : Course PlanState
  course = course_of ranking window (record { cycle = from; pending = pending }) bound period

  missed-at : (n : ℕ) → missed_from ranking window (state_at plan n) ≡ set_of most_slots (is_missed_at plan n)
  unfolding missed_from
  missed-at n =
      set_of-same most_slots (is_missed_in (planning_of ranking window (from + n) (pending_at plan n)) (from + n) (has_bit (pending_at plan n)))
      (is_missed_at plan n)
      (like-missed ranking placed (from + n) (from + n) (like n) window (from + n) from (pending_at plan n) pending
      (has_bit (pending_at plan n)) (pending_before plan n) (agree-set (pending_before plan n)))

  left-at : (n : ℕ) → left_from ranking window (state_at plan n) ≡ set_of most_slots (left_after plan (from + n) (pending_before plan n))
  unfolding left_from
  left-at n =
      set_of-same most_slots (left_after (planning_of ranking window (from + n) (pending_at plan n)) (from + n) (has_bit (pending_at plan n)))
      (left_after plan (from + n) (pending_before plan n))
      (like-left ranking placed (from + n) (from + n) (like n) window (from + n) from (pending_at plan n) pending
      (has_bit (pending_at plan n)) (pending_before plan n) (agree-set (pending_before plan n)))

  pending-next : (n : ℕ) → left_from ranking window (state_at plan n) ≡ pending_at plan (n + 1)
  unfolding pending_before
  pending-next n = rw add-one (left-at n)

  pending-start : pending_at plan 0 ≡ pending
  unfolding pending_before
  pending-start = sym (set_of-has_bit most_slots pending known)

  next-state : (n : ℕ) → missed_from ranking window (state_at plan n) ≡ 0 → state_behind ranking window (state_at plan n) ≡ Some (state_at plan (n + 1))
  next-state n none = grind (arith, eq-eqb, pending-next)

  start-state : state_after course 0 ≡ Some (state_at plan 0)
  start-state = grind (arith, state_after-start, pending-start)

  -- the walk comes to the state of each cycle before which nothing is missed
  pub comes-to : (n : ℕ) → HasNoMiss plan n → state_after course n ≡ Some (state_at plan n)
  comes-to zero none = start-state
  comes-to (suc n) none =
      let here = comes-to n (λ m slot below known. none m slot (omega arith) known) in
      let clear : missed_from ranking window (state_at plan n) ≡ 0 =
      missed-at n ∙ set_of-none most_slots (is_missed_at plan n) (λ slot known. none n slot (omega arith) known) in
      let next : n + 1 ≡ suc n = omega arith in
      subst (λ k. state_after course k ≡ Some (state_at plan k)) next (state_after-next course n (state_at plan n) here ∙ next-state n clear)

  no_miss-more : (n : ℕ) → HasNoMiss plan n → ((slot : ℕ) → slot < most_slots → is_missed_at plan n slot ≡ false) → HasNoMiss plan (n + 1)
  no_miss-more n h0 h1 = grind (arith, cases_lt)

  goes-behind : (n : ℕ) (state : PlanState) → state_behind ranking window (state_at plan n) ≡ Some state
      → (slot : ℕ) → slot < most_slots → is_missed_at plan n slot ≡ false
  goes-behind n state goes slot known =
      let test = cond_some (nat_eq (missed_from ranking window (state_at plan n)) 0)
      (record { cycle = from + n + 1; pending = left_from ranking window (state_at plan n) }) state goes in
      let none : missed_from ranking window (state_at plan n) ≡ 0 = eqb-true (missed_from ranking window (state_at plan n)) 0 test.0 in
      none-set (is_missed_at plan n) slot (sym (missed-at n) ∙ none) known

  -- and only to these
  pub came-to : (n : ℕ) (state : PlanState) → state_after course n ≡ Some state → HasNoMiss plan n
  came-to zero state there = λ m slot below known. absurd (omega arith)
  came-to (suc n) state there =
      let before = state_before course n (suc n) state there (omega arith) in
      let none : HasNoMiss plan n = came-to n before.0 before.1 in
      let next : suc n ≡ n + 1 = omega arith in
      let goes : state_behind ranking window (state_at plan n) ≡ Some state =
      sym (state_after-next course n (state_at plan n) (comes-to n none)) ∙ subst (λ k. state_after course k ≡ Some state) next there in
      subst (λ k. HasNoMiss plan k) (sym next) (no_miss-more n none (goes-behind n state goes))

  pub state-is : (n : ℕ) (state : PlanState) → state_after course n ≡ Some state → state ≡ state_at plan n
  state-is n state there = same_Some state (state_at plan n) (sym there ∙ comes-to n (came-to n state there))

  -- where the walk ends an instance is missed
  pub ends-at : (n : ℕ) → HasNoMiss plan n → state_behind ranking window (state_at plan n) ≡ None → ¬ HasNoMiss plan (n + 1)
  ends-at n h0 h1 = grind (arith, missed-at, set_of-none, next-state)

  pub broken-none : (at : ℕ) → Breaks course at → HasNoMiss plan at
  broken-none at breaks = came-to at breaks.last breaks.last_is

  pub broken-missed : (at : ℕ) → Breaks course at → ¬ HasNoMiss plan (at + 1)
  broken-missed at breaks =
      ends-at at (broken-none at breaks)
      (subst (λ s. state_behind ranking window s ≡ None) (state-is at breaks.last breaks.last_is) breaks.ends)
