-- Some cycles later a plan does the same again.
use Rattle.std.proofs.Common.{◌≡◌, ℕ, zero, suc, ◌+◌, ◌-◌, ◌<◌, ◌≤◌, Bool, false, nat_le, Option, option_map, List, All, get_or, sym, ap, ◌∙◌, ⊎_elim, arith}
use Rattle.std.specs.Option.{option_map_or}
use Rattle.std.proofs.lemmas.Bool.{cases_lt}
use Rattle.std.proofs.lemmas.Bool.Decides.{nat_tests}
use Rattle.requirement_table.specs.declared.entries.Placed.{Placed}
use Rattle.requirement_table.specs.Instance.{Instance}
use Rattle.bit_sets.specs.Sets.{has_bit, most_slots}
use Rattle.requirement_table.specs.Table.{IsWellPlaced, instance_in}
use Rattle.requirement_table.proofs.Shared.{GoesRound, IsMoved, SameAgain, instance-again, later, moved-again, same-again}
use Rattle.planner_policies.specs.declared.Policy.{Policy}
use Rattle.planner_policies.specs.Loop.{RepeatsFrom}
use Rattle.planner_policies.specs.Plan.{HasNoMiss, NeverMisses, Planning, by_number, is_missed_at, key_of, pending_at, pending_before, planned_at}
use Rattle.planner_policies.proofs.Going.{before-next, pending-test}
use Rattle.planner_policies.proofs.Steps.{left-alike, missed-alike, planned-alike}
use Rattle.planner_policies.proofs.Filling.{AreAlike}

-- an entry that repeats from a cycle goes round
goes-round : (b d : ℕ) (p : Placed) → RepeatsFrom b d p → GoesRound b d p
goes-round b d p repeats = grind (arith, option_map)

by-moved : (a b d : ℕ) (rest : Bool) → by_number (a + d) (b + d) rest ≡ by_number a b rest
by-moved a b d rest = grind (arith, nat_tests)

by-some : (a d : ℕ) (rest : Bool) → 0 < a → by_number (a + d) 0 rest ≡ by_number a 0 rest
by-some a d rest some = grind (arith, nat_tests)

abbrev priority_of : Option Instance → ℕ
priority_of o = option_map_or (λ i. i.placed.entry.priority) o 0

abbrev key_with : Policy → Option Instance → ℕ
key_with policy o = option_map_or (key_of policy) o 0

by-later : (policy : Policy) (d : ℕ) (one other : Option Instance) (a b : ℕ) → IsMoved d one → IsMoved d other
    → by_number (key_with policy (option_map (later d) one)) (key_with policy (option_map (later d) other))
    (by_number (priority_of (option_map (later d) one)) (priority_of (option_map (later d) other)) (nat_le a b))
    ≡ by_number (key_with policy one) (key_with policy other) (by_number (priority_of one) (priority_of other) (nat_le a b))
by-later policy d one other a b first second = grind (arith, by-some, by-moved)

pub alike-later : (policy : Policy) (placed : List Placed) (b d c : ℕ) → IsWellPlaced placed → All (RepeatsFrom b d) placed → b ≤ c
    → AreAlike policy placed placed c (c + d)
alike-later policy placed b d c well repeats after =
    let rounds : All (GoesRound b d) placed = λ k e within. goes-round b d (get_or placed k e) (repeats k e within) in
    let again : (slot : ℕ) → SameAgain placed d c slot = λ slot. same-again placed b d c slot well rounds after in
    let found : (slot : ℕ) → instance_in placed slot (c + d) ≡ option_map (later d) (instance_in placed slot c)
    = λ slot. instance-again placed b d c slot well rounds after in
    let moved : (slot : ℕ) → IsMoved d (instance_in placed slot c) = λ slot. moved-again placed b d c slot well rounds after in
    record {
      released = λ slot known. (again slot).releases;
      ordered = grind (arith, option_map, later, by-later);
      cost = λ slot known. (again slot).cost;
      last = λ slot known. (again slot).last;
    }

-- A plan

module _ (plan : Planning) (n m : ℕ) (well : IsWellPlaced plan.placed) (further : n < m)
    (repeats : All (RepeatsFrom (plan.from + n) (m - n)) plan.placed) (same : pending_at plan n ≡ pending_at plan m) where
  alike-on : (k : ℕ) → AreAlike plan.policy plan.placed plan.placed (plan.from + (n + k)) (plan.from + (m + k))
  alike-on k =
      let at : plan.from + (m + k) ≡ (plan.from + (n + k)) + (m - n) = omega arith in
      rw at (alike-later plan.policy plan.placed (plan.from + n) (m - n) (plan.from + (n + k)) well repeats (omega arith))

  pub loop-pending : (k slot : ℕ) → slot < most_slots → pending_before plan (m + k) slot ≡ pending_before plan (n + k) slot
  loop-pending zero slot known =
      let at_m : m + 0 ≡ m = omega arith in
      let at_n : n + 0 ≡ n = omega arith in
      ap (λ k. pending_before plan k slot) at_m ∙ sym (pending-test plan m slot known) ∙ ap (λ mask. has_bit mask slot) (sym same)
      ∙ pending-test plan n slot known ∙ ap (λ k. pending_before plan k slot) (sym at_n)
  loop-pending (suc k) slot known =
      let at_m : m + suc k ≡ suc (m + k) = omega arith in
      let at_n : n + suc k ≡ suc (n + k) = omega arith in
      ap (λ x. pending_before plan x slot) at_m ∙ before-next plan (m + k) slot
      ∙ left-alike plan plan.placed plan.from plan.pending (plan.from + (n + k)) (plan.from + (m + k)) (pending_before plan (n + k)) (pending_before plan (m + k))
      (alike-on k) (λ other below. loop-pending k other below) slot known
      ∙ sym (before-next plan (n + k) slot) ∙ ap (λ x. pending_before plan x slot) (sym at_n)

  pub loop-planned : (k slot : ℕ) → slot < most_slots → planned_at plan (m + k) slot ≡ planned_at plan (n + k) slot
  loop-planned k slot known =
      planned-alike plan plan.placed plan.from plan.pending (plan.from + (n + k)) (plan.from + (m + k)) (pending_before plan (n + k)) (pending_before plan (m + k))
      (alike-on k) (λ other below. loop-pending k other below) slot known

  loop-missed : (k slot : ℕ) → slot < most_slots → is_missed_at plan (m + k) slot ≡ is_missed_at plan (n + k) slot
  loop-missed k slot known =
      missed-alike plan plan.placed plan.from plan.pending (plan.from + (n + k)) (plan.from + (m + k)) (pending_before plan (n + k)) (pending_before plan (m + k))
      (alike-on k) (λ other below. loop-pending k other below) slot known

  none-below : HasNoMiss plan m → (bound t slot : ℕ) → t < bound → slot < most_slots → is_missed_at plan t slot ≡ false
  none-below none zero t slot below known = absurd (omega arith)
  none-below none (suc bound) t slot below known =
      ⊎_elim
      (λ (early : t < m). none t slot early known)
      (λ (late : m ≤ t).
      let at : t ≡ m + (t - m) = omega arith in
      ap (λ x. is_missed_at plan x slot) at ∙ loop-missed (t - m) slot known ∙ none-below none bound (n + (t - m)) slot (omega arith) known)
      (cases_lt t m)

  pub never-missed : HasNoMiss plan m → NeverMisses plan
  never-missed none t slot known = none-below none (suc t) t slot (omega arith) known
