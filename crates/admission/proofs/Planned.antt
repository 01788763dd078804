-- Cycles that are planned one after the other.
use Rattle.std.proofs.Common.{◌≡◌, ℕ, suc, ◌+◌, ◌^◌, ◌<◌, None, List, [], ◌∷◌, ◌++◌, sym, ap, ◌∙◌, subst, arith}
use Rattle.std.proofs.lemmas.Bool.{cases_lt}
use Rattle.bit_sets.specs.Sets.{has_bit, set_of, most_slots}
use Rattle.bit_sets.proofs.Shared.{set_of-has_bit, set_of-same}
use Rattle.planner_policies.specs.declared.state.PlanState.{PlanState}
use Rattle.planner_policies.specs.Plan.{HasNoMiss, HasNoMissIn, IsMissAt, IsMissIn, IsValid, Planning, Ranking, Standing, going_from, is_missed_at, is_missed_in, left_after, mask_at, pending_at, pending_before, planned_at, planned_in, planning_of}
use Rattle.release_wheel.specs.Passed.{IsPassed}
use Rattle.admission.specs.Course.{state_at, state_in}
use Rattle.admission.specs.declared.decision.Decision.{Decision}
use Rattle.admission.specs.declared.verdict.Verdict.TheVariants.{Miss}
use Rattle.admission.specs.Verdict.{IsMissDecision, IsPlannedUpTo}
use Rattle.admission.proofs.Cycles.{Agree, agree-set, like-left, like-missed, like-planned, like-refl}

-- what is planned, left and missed in a state
abbrev pub planned_from : Ranking → ℕ → PlanState → ℕ
planned_from ranking window state =
    set_of most_slots (planned_in (planning_of ranking window state.cycle state.pending) state.cycle (has_bit state.pending))

abbrev pub remains_from : Ranking → ℕ → PlanState → ℕ
remains_from ranking window state =
    set_of most_slots (left_after (planning_of ranking window state.cycle state.pending) state.cycle (has_bit state.pending))

pub state-parts : (x y : PlanState) → x.cycle ≡ y.cycle → x.pending ≡ y.pending → x ≡ y
state-parts x y cycle pending = grind arith

module _ (ranking : Ranking) (window from pending : ℕ) where
  abbrev plan : Planning
  plan = planning_of ranking window from pending

  pending-first : pending < 2 ^ most_slots → pending_at plan 0 ≡ pending
  unfolding pending_before
  pending-first known = sym (set_of-has_bit most_slots pending known)

  pub planned-start : pending < 2 ^ most_slots → IsValid ranking.placed from pending
      → IsPlannedUpTo plan 0 [] (record { cycle = from; pending = pending })
  planned-start known valid = grind (arith, state-parts, pending-first)

  planned-at : (n : ℕ) → planned_from ranking window (state_at plan n) ≡ mask_at plan n
  planned-at n =
      set_of-same most_slots (planned_in (planning_of ranking window (from + n) (pending_at plan n)) (from + n) (has_bit (pending_at plan n)))
      (planned_at plan n)
      (like-planned ranking ranking.placed (from + n) (from + n) (like-refl ranking.policy ranking.placed (from + n)) window (from + n)
      from (pending_at plan n) pending (has_bit (pending_at plan n)) (pending_before plan n) (agree-set (pending_before plan n)))

  left-before : (n : ℕ) → remains_from ranking window (state_at plan n) ≡ pending_at plan (suc n)
  unfolding pending_before
  left-before n =
      set_of-same most_slots (left_after (planning_of ranking window (from + n) (pending_at plan n)) (from + n) (has_bit (pending_at plan n)))
      (left_after plan (from + n) (pending_before plan n))
      (like-left ranking ranking.placed (from + n) (from + n) (like-refl ranking.policy ranking.placed (from + n)) window (from + n)
      from (pending_at plan n) pending (has_bit (pending_at plan n)) (pending_before plan n) (agree-set (pending_before plan n)))

  missed-same : (n : ℕ)
      → Agree (is_missed_in (planning_of ranking window (from + n) (pending_at plan n)) (from + n) (has_bit (pending_at plan n))) (is_missed_at plan n)
  missed-same n =
      like-missed ranking ranking.placed (from + n) (from + n) (like-refl ranking.policy ranking.placed (from + n)) window (from + n)
      from (pending_at plan n) pending (has_bit (pending_at plan n)) (pending_before plan n) (agree-set (pending_before plan n))

  pub planned-next : (n mask : ℕ) (masks : List ℕ) (state next : PlanState) → IsPlannedUpTo plan n masks state
      → mask ≡ planned_from ranking window state → next.cycle ≡ state.cycle + 1 → next.pending ≡ remains_from ranking window state
      → IsValid ranking.placed next.cycle next.pending → IsPlannedUpTo plan (n + 1) (masks ++ mask ∷ []) next
  planned-next n mask masks state next planned is cycle left valid = grind (arith, planned-at, left-before, state-parts)

  -- a planner of the ranking has planned the next cycle
  pub planned-step : (n mask : ℕ) (masks : List ℕ) (old new : Standing) → IsPlannedUpTo plan n masks (state_in old) → old.ranking ≡ ranking
      → mask ≡ planned_from old.ranking window (state_in old)
      → new ≡ record { ranking = old.ranking; cycle = old.cycle + 1; pending = remains_from old.ranking window (state_in old) }
      → IsValid new.ranking.placed new.cycle new.pending → IsPlannedUpTo plan (n + 1) (masks ++ mask ∷ []) (state_in new)
  planned-step n mask masks old new planned same is next valid =
      planned-next n mask masks (state_in old) (state_in new) planned (is ∙ ap (λ (r : Ranking). planned_from r window (state_in old)) same)
      (ap (λ (s : Standing). s.cycle) next)
      (ap (λ (s : Standing). s.pending) next ∙ ap (λ (r : Ranking). remains_from r window (state_in old)) same)
      (subst (λ (r : Ranking). IsValid r.placed new.cycle new.pending) (ap (λ (s : Standing). s.ranking) next ∙ same) valid)

  -- the state may be written with no cycle more
  pub planned-here : (n : ℕ) (masks : List ℕ) (state : PlanState) → IsPlannedUpTo plan n masks state
      → IsPlannedUpTo plan (n + 0) masks (record { cycle = state.cycle + 0; pending = state.pending })
  planned-here n masks state planned = grind (arith, state-parts)

  -- a planner of the ranking passed the next cycle
  pub planned-empty : (n : ℕ) (masks : List ℕ) (here : Standing) (k : ℕ) → here.ranking ≡ ranking
      → IsPlannedUpTo plan (n + k) masks (record { cycle = here.cycle + k; pending = here.pending })
      → IsPassed (planning_of here.ranking window (here.cycle + k) here.pending) → IsValid here.ranking.placed (here.cycle + k + 1) here.pending
      → IsPlannedUpTo plan (n + (k + 1)) (masks ++ 0 ∷ []) (record { cycle = here.cycle + (k + 1); pending = here.pending })
  planned-empty n masks here k same planned passed valid =
      let quiet : IsPassed (planning_of ranking window (here.cycle + k) here.pending)
      = subst (λ (r : Ranking). IsPassed (planning_of r window (here.cycle + k) here.pending)) same passed in
      let up : n + k + 1 ≡ n + (k + 1) = omega arith in
      let on : here.cycle + k + 1 ≡ here.cycle + (k + 1) = omega arith in
      let held : IsValid ranking.placed (here.cycle + (k + 1)) here.pending
      = subst (λ c. IsValid ranking.placed c here.pending) on (subst (λ (r : Ranking). IsValid r.placed (here.cycle + k + 1) here.pending) same valid) in
      subst (λ m. IsPlannedUpTo plan m (masks ++ 0 ∷ []) (record { cycle = here.cycle + (k + 1); pending = here.pending })) up
      (planned-next (n + k) 0 masks (record { cycle = here.cycle + k; pending = here.pending })
      (record { cycle = here.cycle + (k + 1); pending = here.pending }) planned (sym quiet.planned) (sym on) quiet.same.left held)

  -- a state in which nothing is missed
  pub none-more : (n : ℕ) (state : PlanState) → state ≡ state_at plan n
      → HasNoMissIn (planning_of ranking window state.cycle state.pending) state.cycle (has_bit state.pending) → HasNoMiss plan n
      → HasNoMiss plan (n + 1)
  none-more n state h0 h1 h2 = grind (arith, missed-same, cases_lt)

  pub miss-at : (n slot release : ℕ) (state : PlanState) → state ≡ state_at plan n
      → IsMissIn (planning_of ranking window state.cycle state.pending) state.cycle (has_bit state.pending) slot release
      → IsMissAt plan n slot release
  miss-at n slot release state is here = grind (arith, missed-same)

  -- what is missed where a planner of the ranking stands
  pub missed-there : (slot release : ℕ) (here : Standing) → here.ranking ≡ ranking
      → IsMissIn (going_from here window) here.cycle (has_bit here.pending) slot release
      → IsMissIn (planning_of ranking window here.cycle here.pending) here.cycle (has_bit here.pending) slot release
  missed-there slot release here same miss = grind arith

  pub none-there : (n : ℕ) (here : Standing) → state_in here ≡ state_at plan n → here.ranking ≡ ranking
      → HasNoMissIn (going_from here window) here.cycle (has_bit here.pending) → HasNoMiss plan n → HasNoMiss plan (n + 1)
  none-there n here is same none before =
      none-more n (state_in here) is
      (subst (λ (r : Ranking). HasNoMissIn (planning_of r window here.cycle here.pending) here.cycle (has_bit here.pending)) same none) before

  -- where none is missed before the cycle of the state, none of the first n is
  pub none-at : (n cycles : ℕ) (state : PlanState) → state ≡ state_at plan n → n < cycles → HasNoMiss plan cycles
      → HasNoMissIn (planning_of ranking window state.cycle state.pending) state.cycle (has_bit state.pending)
  none-at n cycles state is below none = grind (arith, missed-same)

  pub miss-decided : (n slot release cycle mask : ℕ) (masks : List ℕ) (state : PlanState) (decision : Decision) → IsPlannedUpTo plan n masks state
      → IsMissIn (planning_of ranking window state.cycle state.pending) state.cycle (has_bit state.pending) slot release
      → cycle ≡ state.cycle → mask ≡ planned_from ranking window state → decision.verdict ≡ Miss slot release cycle → decision.placed ≡ None
      → decision.trail ≡ masks ++ mask ∷ [] → IsMissDecision plan n decision
  miss-decided n slot release cycle mask masks state decision planned miss at is verdict list trail = grind (arith, planned-at, miss-at)
