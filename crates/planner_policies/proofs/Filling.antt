-- What a filling takes of the pending slots. Proofs elsewhere go by the lemmas of this file.
use Rattle.std.proofs.Common.{◌≡◌, ◌≢◌, ℕ, zero, suc, ◌+◌, ◌<◌, ◌≤◌, ◌&&◌, ◌||◌, ◌⊎◌, inl, inr, not, Bool, true, false, nat_eq, nat_le, List, refl, sym, ap, ◌∙◌, ⊎_elim, arith}
use Rattle.std.proofs.lemmas.Grind.{common_steps}
use Rattle.std.proofs.lemmas.Bool.{and_from, and_parts, both_ways, cases_eq, eq-eqb, eqb-true, false_from_ne_true, le-leb, leb-true, not-true, not_from_false, or_cases, or_left, or_right}
use Rattle.requirement_table.specs.declared.entries.Placed.{Placed}
use Rattle.bit_sets.specs.Sets.{most_slots, sum_where}
use Rattle.requirement_table.specs.Table.{is_last_in, releases_in, width_in, worst_in}
use Rattle.bit_sets.proofs.Shared.{sum_where-same, sum_where-costs, sum_where-count, sum_where-le, sum_where-less, sum_where-with, sum_where-none}
use Rattle.planner_policies.specs.declared.Fill.{Fill}
use Rattle.planner_policies.specs.declared.Fill.TheVariants.{Prefix, Skip}
use Rattle.planner_policies.specs.declared.Policy.{Policy}
use Rattle.planner_policies.specs.Plan.{goes_before, is_by, is_fitting, is_in_front, is_taken}
use Rattle.planner_policies.proofs.KeyOrder.{is_by-antisym, is_by-refl, is_by-total, is_by-trans}

-- tests that hold together are one test
pub same-test : (a b : Bool) → (a ≡ true → b ≡ true) → (b ≡ true → a ≡ true) → a ≡ b
same-test a b there back = grind arith

-- Key order, strictly

module _ (policy : Policy) (placed : List Placed) (c : ℕ) where
  pub before-behind : (one other : ℕ) → goes_before policy placed c one other ≡ true → is_by policy placed c other one ≡ false
  before-behind one other before = not-true (is_by policy placed c other one) before

  pub before-by : (one other : ℕ) → goes_before policy placed c one other ≡ true → is_by policy placed c one other ≡ true
  before-by one other before = is_by-total policy placed c other one (before-behind one other before)

  pub before-itself : (slot : ℕ) → goes_before policy placed c slot slot ≡ false
  before-itself slot = ap not (is_by-refl policy placed c slot)

  pub before-trans : (one other third : ℕ) → goes_before policy placed c one other ≡ true → goes_before policy placed c other third ≡ true
      → goes_before policy placed c one third ≡ true
  before-trans one other third first second = grind (arith, not_from_false, false_from_ne_true, both_ways, before-behind, is_by-trans, before-by)

  -- of two slots, one before the other in key order, the first goes before the second
  pub before-from : (one other : ℕ) → is_by policy placed c one other ≡ true → one ≢ other → goes_before policy placed c one other ≡ true
  before-from one other by apart = grind (arith, not_from_false, false_from_ne_true, is_by-antisym)

  -- a slot is by another one where it is the same one or goes before it
  by-or-same : (slot other : ℕ) → is_by policy placed c other slot ≡ (nat_eq slot other || goes_before policy placed c other slot)
  by-or-same slot other = grind (arith, same-test, or_left, eq-eqb, or_right, before-from, eqb-true, is_by-refl, before-by, or_cases)

  -- what the slots up to one of them cost is what it costs and what those before it cost
  pub width-up-to : (p : ℕ → Bool) (slot : ℕ) → slot < most_slots → p slot ≡ true
      → width_in placed c (λ other. p other && is_by policy placed c other slot)
      ≡ worst_in placed c slot + width_in placed c (λ other. p other && goes_before policy placed c other slot)
  width-up-to p slot known here =
      sum_where-same most_slots (λ other. p other && is_by policy placed c other slot)
      (λ other. nat_eq slot other || (p other && goes_before policy placed c other slot)) (worst_in placed c)
      (λ other below. ap (λ b. p other && b) (by-or-same slot other) ∙ turned (nat_eq slot other) (p other) (goes_before policy placed c other slot) (λ same. ap p (sym (eqb-true slot other same)) ∙ here))
      ∙ sum_where-with most_slots slot (λ other. p other && goes_before policy placed c other slot) (worst_in placed c) known
      (ap (λ b. p slot && b) (before-itself slot) ∙ and-false (p slot))
    where
      turned : (same p before : Bool) → (same ≡ true → p ≡ true) → (p && (same || before)) ≡ (same || (p && before))
      turned same p before all = grind arith

      and-false : (b : Bool) → (b && false) ≡ false
      and-false b = grind arith

  -- how many slots go before a slot
  pub rank : ℕ → ℕ
  rank slot = sum_where most_slots (λ other. goes_before policy placed c other slot) (λ _. 1)

  rank-less : (one other : ℕ) → one < most_slots → goes_before policy placed c one other ≡ true → rank one < rank other
  unfolding rank
  rank-less one other known before =
      let less = sum_where-less most_slots one (λ s. goes_before policy placed c s one) (λ s. goes_before policy placed c s other) (λ _. 1) known
      (before-itself one) before (λ s below first. before-trans s one other first before) in
      omega arith

  rank-below : (slot : ℕ) → slot < most_slots → rank slot < most_slots
  unfolding rank
  rank-below slot known =
      let less = sum_where-less most_slots slot (λ s. goes_before policy placed c s slot) (λ _. true) (λ _. 1) known (before-itself slot) refl
      (λ s below first. refl) in
      grind (arith, sum_where-count)

-- The filling that takes each slot that still fits

module _ (policy : Policy) (window : ℕ) (placed : List Placed) (c : ℕ) (pending : ℕ → Bool) where
  -- a pending slot fits where it and the slots before it of which the test holds sum to at most the window
  abbrev pub fits_with : (ℕ → Bool) → ℕ → Bool
  fits_with test slot =
      pending slot && nat_le (worst_in placed c slot + width_in placed c (λ other. test other && goes_before policy placed c other slot)) window

  -- only what the test says of the slots before it counts
  fits-same : (p q : ℕ → Bool) (slot : ℕ) → ((other : ℕ) → other < most_slots → goes_before policy placed c other slot ≡ true → p other ≡ q other)
      → fits_with p slot ≡ fits_with q slot
  fits-same p q slot same =
      ap (λ w. pending slot && nat_le (worst_in placed c slot + w) window)
      (sum_where-same most_slots (λ other. p other && goes_before policy placed c other slot) (λ other. q other && goes_before policy placed c other slot)
      (worst_in placed c) (λ other known. both (p other) (q other) (goes_before policy placed c other slot) (same other known)))
    where
      both : (a b before : Bool) → (before ≡ true → a ≡ b) → (a && before) ≡ (b && before)
      both a b before same = grind arith

  -- there is one test that holds of the slots that fit with it
  only-one : (p q : ℕ → Bool) → ((s : ℕ) → s < most_slots → p s ≡ fits_with p s) → ((s : ℕ) → s < most_slots → q s ≡ fits_with q s)
      → (n slot : ℕ) → slot < most_slots → rank policy placed c slot < n → p slot ≡ q slot
  only-one p q p-is q-is zero slot known low = absurd (omega arith)
  only-one p q p-is q-is (suc n) slot known low =
      p-is slot known
      ∙ fits-same p q slot
      (λ other below before. let less = rank-less policy placed c other slot below before in only-one p q p-is q-is n other below (omega arith))
      ∙ sym (q-is slot known)

  fitting-next : (n slot : ℕ) → is_fitting (suc n) policy window placed c pending slot ≡ fits_with (is_fitting n policy window placed c pending) slot
  unfolding is_fitting
  fitting-next n slot = refl

  -- a number above those of the slots before it changes nothing
  fitting-more : (n slot : ℕ) → slot < most_slots → rank policy placed c slot < n
      → is_fitting n policy window placed c pending slot ≡ is_fitting (suc n) policy window placed c pending slot
  fitting-more zero slot known low = absurd (omega arith)
  fitting-more (suc n) slot known low =
      fitting-next n slot
      ∙ fits-same (is_fitting n policy window placed c pending) (is_fitting (suc n) policy window placed c pending) slot
      (λ other below before. let less = rank-less policy placed c other slot below before in fitting-more n other below (omega arith))
      ∙ sym (fitting-next (suc n) slot)

  fitting-pending : (n slot : ℕ) → is_fitting n policy window placed c pending slot ≡ true → pending slot ≡ true
  unfolding is_fitting
  fitting-pending n slot fits = grind (arith, and_parts)

  taken-prefix : (slot : ℕ) → is_taken policy Prefix window placed c pending slot ≡ is_in_front policy window placed c pending slot
  unfolding is_taken
  taken-prefix slot = refl

  taken-skip : (slot : ℕ) → is_taken policy Skip window placed c pending slot ≡ is_fitting most_slots policy window placed c pending slot
  unfolding is_taken
  taken-skip slot = refl

  pub in-front : (fill : Fill) (slot : ℕ) → fill ≡ Prefix → is_taken policy fill window placed c pending slot ≡ is_in_front policy window placed c pending slot
  in-front fill slot is = grind (arith, taken-prefix)

  skip-fits : (slot : ℕ) → slot < most_slots → is_taken policy Skip window placed c pending slot ≡ fits_with (is_taken policy Skip window placed c pending) slot
  skip-fits slot known =
      taken-skip slot
      ∙ fitting-more most_slots slot known (rank-below policy placed c slot known)
      ∙ fitting-next most_slots slot
      ∙ fits-same (is_fitting most_slots policy window placed c pending) (is_taken policy Skip window placed c pending) slot
      (λ other below before. sym (taken-skip other))

  -- the filling `Skip` takes each slot that fits with what it takes, and no other test holds of such slots
  pub taken-each : (fill : Fill) (slot : ℕ) → fill ≡ Skip → slot < most_slots
      → is_taken policy fill window placed c pending slot ≡ fits_with (is_taken policy fill window placed c pending) slot
  taken-each fill slot is known = grind (arith, skip-fits)

  pub taken-one : (fill : Fill) (test : ℕ → Bool) (slot : ℕ) → fill ≡ Skip → ((s : ℕ) → s < most_slots → test s ≡ fits_with test s) → slot < most_slots
      → test slot ≡ is_taken policy fill window placed c pending slot
  taken-one fill test slot is fits known =
      only-one test (is_taken policy fill window placed c pending) fits (λ s below. taken-each fill s is below) most_slots slot known
      (rank-below policy placed c slot known)

  -- Both fillings

  -- what is taken is pending
  pub taken-pending : (fill : Fill) (slot : ℕ) → is_taken policy fill window placed c pending slot ≡ true → pending slot ≡ true
  taken-pending Prefix slot taken = grind (arith, and_parts, taken-prefix)
  taken-pending Skip slot taken = fitting-pending most_slots slot (sym (taken-skip slot) ∙ taken)

  -- those before it in key order are pending too
  taken-less : (fill : Fill) (slot : ℕ)
      → width_in placed c (λ other. is_taken policy fill window placed c pending other && goes_before policy placed c other slot)
      ≤ width_in placed c (λ other. pending other && goes_before policy placed c other slot)
  taken-less fill slot =
      sum_where-le most_slots (λ other. is_taken policy fill window placed c pending other && goes_before policy placed c other slot)
      (λ other. pending other && goes_before policy placed c other slot) (worst_in placed c)
      (λ other below both. grind (arith, and_parts, both, and_from, taken-pending))

  front-fits : (slot : ℕ) → slot < most_slots → is_taken policy Prefix window placed c pending slot ≡ true
      → worst_in placed c slot + width_in placed c (λ other. pending other && goes_before policy placed c other slot) ≤ window
  front-fits slot known taken = grind (arith, and_parts, taken-prefix, width-up-to, leb-true)

  -- what is taken fits with what is taken before it
  pub taken-room : (fill : Fill) (slot : ℕ) → slot < most_slots → is_taken policy fill window placed c pending slot ≡ true
      → worst_in placed c slot + width_in placed c (λ other. is_taken policy fill window placed c pending other && goes_before policy placed c other slot) ≤ window
  taken-room fill slot known taken = grind (arith, taken-less, front-fits, leb-true, and_parts, skip-fits)

  -- a pending slot that fits with all pending ones before it is taken
  pub taken-enough : (fill : Fill) (slot : ℕ) → slot < most_slots → pending slot ≡ true
      → worst_in placed c slot + width_in placed c (λ other. pending other && goes_before policy placed c other slot) ≤ window
      → is_taken policy fill window placed c pending slot ≡ true
  taken-enough Prefix slot known here fits = grind (arith, width-up-to, taken-prefix, and_from, le-leb)
  taken-enough Skip slot known here fits =
      let width = worst_in placed c slot + width_in placed c (λ other. is_taken policy Skip window placed c pending other && goes_before policy placed c other slot) in
      let less = taken-less Skip slot in
      skip-fits slot known ∙ and_from (pending slot) (nat_le width window) here (le-leb width window (omega arith))

  -- where all pending slots fit the window together, all are taken
  pub taken-all : (fill : Fill) (slot : ℕ) → slot < most_slots → width_in placed c pending ≤ window → pending slot ≡ true
      → is_taken policy fill window placed c pending slot ≡ true
  taken-all fill slot known fits here =
      let some : width_in placed c (λ other. pending other && is_by policy placed c other slot) ≤ width_in placed c pending
      = sum_where-le most_slots (λ other. pending other && is_by policy placed c other slot) pending (worst_in placed c)
      (λ other below both. (and_parts (pending other) (is_by policy placed c other slot) both).0) in
      grind (arith, width-up-to, taken-enough)

  -- the filling `Skip` takes all that `Prefix` takes
  pub taken-more : (fill : Fill) (slot : ℕ) → slot < most_slots → is_taken policy Prefix window placed c pending slot ≡ true
      → is_taken policy fill window placed c pending slot ≡ true
  taken-more fill slot known taken = taken-enough fill slot known (taken-pending Prefix slot taken) (front-fits slot known taken)

-- among the slots below n that pass a test there is a last one in key order, if there is any
record IsLastOf (policy : Policy) (placed : List Placed) (c : ℕ) (p : ℕ → Bool) (n : ℕ) : Type 0 where
  slot : ℕ
  within : slot < n
  is : p slot ≡ true
  all : (other : ℕ) → other < n → p other ≡ true → is_by policy placed c other slot ≡ true

module _ (policy : Policy) (placed : List Placed) (c : ℕ) (p : ℕ → Bool) where
  one-more : (n : ℕ) (last : IsLastOf policy placed c p n) (here : Bool) → p n ≡ here
      → (order : Bool) → is_by policy placed c n last.slot ≡ order → IsLastOf policy placed c p (suc n)
  one-more n last false none order by = grind (arith, both_ways)
  one-more n last true here true by = grind arith
  one-more n last true here false by =
      let behind = is_by-total policy placed c n last.slot by in
      record {
        slot = n;
        within = omega arith;
        is = here;
        all = λ other below passes.
            ⊎_elim
            (λ (same : other ≡ n). ap (λ s. is_by policy placed c s n) same ∙ is_by-refl policy placed c n)
            (λ (differs : other ≢ n). is_by-trans policy placed c other last.slot n (last.all other (omega arith) passes) behind)
            (cases_eq other n);
      }

  first-one : (n : ℕ) → ((s : ℕ) → s < n → p s ≡ false) → p n ≡ true → IsLastOf policy placed c p (suc n)
  first-one n none here = grind (arith, is_by-refl, both_ways)

  last-of : (n : ℕ) → ((s : ℕ) → s < n → p s ≡ false) ⊎ IsLastOf policy placed c p n
  last-of zero = inl (λ s below. absurd (omega arith))
  last-of (suc n) =
      ⊎_elim
      (λ (none : (s : ℕ) → s < n → p s ≡ false). grind (arith, first-one))
      (λ (last : IsLastOf policy placed c p n). inr (one-more n last (p n) refl (is_by policy placed c n last.slot) refl))
      (last-of n)

-- what is taken fits the window together
pub taken-fits : (policy : Policy) (fill : Fill) (window : ℕ) (placed : List Placed) (c : ℕ) (pending : ℕ → Bool)
    → width_in placed c (is_taken policy fill window placed c pending) ≤ window
taken-fits policy fill window placed c pending =
    let taken : ℕ → Bool = is_taken policy fill window placed c pending in
    ⊎_elim
    (λ (none : (s : ℕ) → s < most_slots → is_taken policy fill window placed c pending s ≡ false). grind (arith, sum_where-none))
    (λ (last : IsLastOf policy placed c (is_taken policy fill window placed c pending) most_slots).
    let room = taken-room policy window placed c pending fill last.slot last.within last.is in
    let split = width-up-to policy placed c taken last.slot last.within last.is in
    let less : width_in placed c taken ≤ width_in placed c (λ other. taken other && is_by policy placed c other last.slot)
    = grind (arith, common_steps, sum_where-le, and_from) in
    omega arith)
    (last-of policy placed c (is_taken policy fill window placed c pending) most_slots)

-- What is taken depends on the instances of the cycle and on what is pending alone

-- two cycles of two tables in which a policy finds the same
pub record AreAlike (policy : Policy) (placed placed' : List Placed) (c c' : ℕ) : Type 0 where
  pub released : (slot : ℕ) → slot < most_slots → releases_in placed' c' slot ≡ releases_in placed c slot
  pub ordered : (one other : ℕ) → one < most_slots → other < most_slots → is_by policy placed' c' one other ≡ is_by policy placed c one other
  pub cost : (slot : ℕ) → slot < most_slots → worst_in placed' c' slot ≡ worst_in placed c slot
  pub last : (slot : ℕ) → slot < most_slots → is_last_in placed' c' slot ≡ is_last_in placed c slot

-- two tests agree on the slots
abbrev pub Agree : (ℕ → Bool) → (ℕ → Bool) → Type 0
Agree before' before = (slot : ℕ) → slot < most_slots → before' slot ≡ before slot

module _ (policy : Policy) (window : ℕ) (placed placed' : List Placed) (c c' : ℕ) (pending pending' : ℕ → Bool)
    (alike : AreAlike policy placed placed' c c') (agree : Agree pending' pending) where
  width-alike : (p' p : ℕ → Bool) → Agree p' p → width_in placed' c' p' ≡ width_in placed c p
  width-alike p' p same =
      sum_where-same most_slots p' p (worst_in placed' c') same ∙ sum_where-costs most_slots p (worst_in placed' c') (worst_in placed c) (λ s below _. alike.cost s below)

  front-alike : (slot : ℕ) → slot < most_slots → is_in_front policy window placed' c' pending' slot ≡ is_in_front policy window placed c pending slot
  front-alike slot known = grind (arith, width-alike)

  fits-alike : (p' p : ℕ → Bool) (slot : ℕ) → Agree p' p → slot < most_slots
      → fits_with policy window placed' c' pending' p' slot ≡ fits_with policy window placed c pending p slot
  fits-alike p' p slot same known = grind (arith, width-alike)

  fitting-none : (slot : ℕ) → is_fitting zero policy window placed' c' pending' slot ≡ is_fitting zero policy window placed c pending slot
  unfolding is_fitting
  fitting-none slot = refl

  fitting-alike : (n slot : ℕ) → slot < most_slots
      → is_fitting n policy window placed' c' pending' slot ≡ is_fitting n policy window placed c pending slot
  fitting-alike zero slot known = fitting-none slot
  fitting-alike (suc n) slot known =
      fitting-next policy window placed' c' pending' n slot
      ∙ fits-alike (is_fitting n policy window placed' c' pending') (is_fitting n policy window placed c pending) slot (λ other below. fitting-alike n other below) known
      ∙ sym (fitting-next policy window placed c pending n slot)

  pub taken-alike : (fill : Fill) (slot : ℕ) → slot < most_slots
      → is_taken policy fill window placed' c' pending' slot ≡ is_taken policy fill window placed c pending slot
  taken-alike Prefix slot known = grind (arith, taken-prefix, front-alike)
  taken-alike Skip slot known = grind (arith, taken-skip, fitting-alike)
