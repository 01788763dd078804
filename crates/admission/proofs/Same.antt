-- The same states go on in the same way, and have the same keys.
use Rattle.std.proofs.Common.{◌≡◌, ◌≢◌, ℕ, ◌+◌, ◌-◌, ◌%◌, ◌<◌, ◌≤◌, Bool, true, false, nat_eq, nat_lt, if◌then◌else◌, Option, Some, None, List, All, refl, sym, ap, subst, arith, ⊎_elim}
use Rattle.std.proofs.lemmas.Bool.{cases_lt, eq-eqb, ne_eqb}
use Rattle.std.proofs.lemmas.Bool.Decides.{nat_tests}
use Rattle.requirement_table.specs.declared.entries.Placed.{Placed}
use Rattle.requirement_table.specs.Instance.{Instance, release_of}
use Rattle.bit_sets.specs.Sets.{has_bit, set_of, most_slots}
use Rattle.requirement_table.specs.Table.{IsHeldFrom, instance_in}
use Rattle.bit_sets.proofs.Shared.{set_of-same, set_of-none}
use Rattle.std.specs.Option.{option_map_or}
use Rattle.planner_policies.specs.declared.Policy.{Policy}
use Rattle.planner_policies.specs.declared.state.PlanState.{PlanState}
use Rattle.planner_policies.specs.Loop.{RepeatsFrom}
use Rattle.planner_policies.specs.Plan.{HasNoMissIn, IsMissIn, IsValid, Ranking, is_missed_in, left_after, planning_of}
use Rattle.admission.specs.Course.{is_held_from, left_from, missed_from, state_behind}
use Rattle.admission.specs.WalkLaws.{GoesOnAlike}
use Rattle.admission.proofs.Cycles.{Agree, IsLike, like-left, like-missed, like-sym, none-set}
use Rattle.admission.proofs.Divided.{divided-along, divided-gap}
use Rattle.admission.proofs.Later.{IsSettled, like-behind}

-- what every entry of a list has
pub record IsRepeating (bound length : ℕ) (placed : List Placed) : Type 0 where
  pub positive : 0 < length
  pub repeats : All (RepeatsFrom bound length) placed
  pub some_time : All (λ p. 1 ≤ p.entry.deadline) placed

pub settled-all : (bound length : ℕ) (placed : List Placed) (c more : ℕ) → IsRepeating bound length placed → bound ≤ c → more % length ≡ 0
    → All (IsSettled more c) placed
settled-all bound length placed c more h0 h1 h2 = grind (arith, divided-along)

-- cycles with one place in the period, from the bound on, are alike
pub like-places : (policy : Policy) (bound length : ℕ) (placed : List Placed) (c d : ℕ) → IsRepeating bound length placed → bound ≤ c → bound ≤ d
    → c % length ≡ d % length → IsLike policy placed placed c d
like-places policy bound length placed c d repeating first second same =
    ⊎_elim
    (λ (before : c < d).
    let gap : c + (d - c) ≡ d = omega arith in
    let like = like-behind policy placed c (d - c)
    (settled-all bound length placed c (d - c) repeating first (divided-gap c d length (omega arith) same)) in
    subst (λ n. IsLike policy placed placed c n) gap like)
    (λ (behind : d ≤ c).
    let gap : d + (c - d) ≡ c = omega arith in
    let like = like-behind policy placed d (c - d)
    (settled-all bound length placed d (c - d) repeating second (divided-gap d c length behind (sym same))) in
    like-sym policy placed placed d c (subst (λ n. IsLike policy placed placed d n) gap like))
    (cases_lt c d)

-- states with the same slots pending, in cycles that are alike, go on in the same way
module _ (ranking : Ranking) (other : List Placed) (window c d pending has : ℕ)
    (like : IsLike ranking.policy ranking.placed other c d) (same : Agree (has_bit pending) (has_bit has)) where
  abbrev one_state : PlanState
  one_state = record { cycle = c; pending = pending }

  abbrev other_state : PlanState
  other_state = record { cycle = d; pending = has }

  abbrev other_ranking : Ranking
  other_ranking = record ranking { placed = other }

  pub missed-like : missed_from ranking window one_state ≡ missed_from other_ranking window other_state
  unfolding missed_from
  missed-like =
      set_of-same most_slots (is_missed_in (planning_of ranking window c pending) c (has_bit pending))
      (is_missed_in (planning_of other_ranking window d has) d (has_bit has))
      (like-missed ranking other c d like window c d pending has (has_bit pending) (has_bit has) same)

  pub left-like : left_from ranking window one_state ≡ left_from other_ranking window other_state
  unfolding left_from
  left-like =
      set_of-same most_slots (left_after (planning_of ranking window c pending) c (has_bit pending))
      (left_after (planning_of other_ranking window d has) d (has_bit has))
      (like-left ranking other c d like window c d pending has (has_bit pending) (has_bit has) same)

-- so a walk goes on in the same way after states that are the same
pub goes-on : (ranking : Ranking) (window bound : ℕ) (period : Option ℕ)
    → ((length : ℕ) → period ≡ Some length → IsRepeating bound length ranking.placed) → GoesOnAlike ranking window bound period
goes-on ranking window bound None repeating one other same = absurd same
goes-on ranking window bound (Some length) repeating one other same =
    let like = like-places ranking.policy bound length ranking.placed one.cycle other.cycle (repeating length refl) same.one_settled same.other_settled same.place in
    let agree : Agree (has_bit one.pending) (has_bit other.pending) = λ slot known. ap (λ mask. has_bit mask slot) same.pending in (
      missed-like ranking ranking.placed window one.cycle other.cycle one.pending other.pending like agree,
      left-like ranking ranking.placed window one.cycle other.cycle one.pending other.pending like agree,
    )

-- the state behind a state, by what is known of its plan

chosen : (b : Bool) (x : PlanState) → b ≡ true → Some x ≡ (if b then Some x else None)
chosen b x is = grind arith

unchosen : (b : Bool) (x : PlanState) → b ≡ false → None ≡ (if b then Some x else None)
unchosen b x is = grind arith

pub state-same : (x y : PlanState) → x.cycle ≡ y.cycle → x.pending ≡ y.pending → x ≡ y
state-same x y cycle pending = grind arith

pub behind-planned : (ranking : Ranking) (window : ℕ) (state next : PlanState)
    → HasNoMissIn (planning_of ranking window state.cycle state.pending) state.cycle (has_bit state.pending)
    → next.cycle ≡ state.cycle + 1
    → next.pending ≡ set_of most_slots (left_after (planning_of ranking window state.cycle state.pending) state.cycle (has_bit state.pending))
    → Some next ≡ state_behind ranking window state
unfolding missed_from left_from
behind-planned ranking window state next none cycle pending = grind (arith, set_of-none, state-same, chosen, eq-eqb)

pub behind-missed : (ranking : Ranking) (window slot release : ℕ) (state : PlanState)
    → IsMissIn (planning_of ranking window state.cycle state.pending) state.cycle (has_bit state.pending) slot release
    → None ≡ state_behind ranking window state
unfolding missed_from left_from
behind-missed ranking window slot release state miss =
    let wrong : missed_from ranking window state ≢ 0 = λ none.
    let not = none-set (is_missed_in (planning_of ranking window state.cycle state.pending) state.cycle (has_bit state.pending)) slot none miss.known in
    let is = miss.missed in
    cc in
    unchosen (nat_eq (missed_from ranking window state) 0) (record { cycle = state.cycle + 1; pending = left_from ranking window state })
    (ne_eqb (missed_from ranking window state) 0 wrong)

-- validity as a test

held-parts : (placed : List Placed) (c slot : ℕ) (o : Option Instance) → instance_in placed slot c ≡ o
    → option_map_or (λ i. nat_lt (release_of i.placed i.number) c) o false ≡ true → IsHeldFrom placed c slot
held-parts placed c slot o found test = grind (arith, nat_tests)

pub held-from_tests : (placed : List Placed) (c pending : ℕ) → ((slot : ℕ) → has_bit pending slot ≡ true → is_held_from placed c slot ≡ true)
    → IsValid placed c pending
held-from_tests placed c pending held slot in' = held-parts placed c slot (instance_in placed slot c) refl (held slot in')

pub held-tests : (placed : List Placed) (c pending : ℕ) → IsValid placed c pending → (slot : ℕ) → has_bit pending slot ≡ true
    → is_held_from placed c slot ≡ true
held-tests placed c pending valid slot in' = grind (arith, nat_lt, nat_tests)
