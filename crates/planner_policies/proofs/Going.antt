-- Plannings with the same instances, and plannings that go on, have the same plan.
use Rattle.std.proofs.Common.{◌≡◌, ℕ, zero, suc, ◌+◌, ◌<◌, ◌≤◌, List, refl, sym, ap, ◌∙◌, arith}
use Rattle.requirement_table.specs.declared.entries.Placed.{Placed}
use Rattle.bit_sets.specs.Sets.{has_bit, set_of, most_slots}
use Rattle.requirement_table.specs.Table.{instance_in, releases_in}
use Rattle.bit_sets.proofs.Shared.{set_of-same, set_of-has}
use Rattle.planner_policies.specs.Plan.{IsMissAt, IsMissIn, Planning, is_missed_at, is_missed_in, left_after, mask_at, pending_at, pending_before, planned_at, planned_in}
use Rattle.planner_policies.proofs.Steps.{alike-from_same, left-alike, missed-alike, planned-alike}
use Rattle.planner_policies.proofs.Filling.{AreAlike}

pub before-next : (plan : Planning) (n slot : ℕ) → pending_before plan (suc n) slot ≡ left_after plan (plan.from + n) (pending_before plan n) slot
unfolding pending_before
before-next plan n slot = refl

pub before-first : (plan : Planning) (slot : ℕ) → pending_before plan zero slot ≡ has_bit plan.pending slot
unfolding pending_before
before-first plan slot = refl

-- a slot is in the set of the pending ones where it is pending
pub pending-test : (plan : Planning) (n slot : ℕ) → slot < most_slots → has_bit (pending_at plan n) slot ≡ pending_before plan n slot
pending-test plan n slot known = grind (arith, set_of-has)

module _ (plan : Planning) (placed : List Placed) (n : ℕ)
    (same : (k slot : ℕ) → k < n → slot < most_slots → instance_in placed slot (plan.from + k) ≡ instance_in plan.placed slot (plan.from + k))
    (releases : (k slot : ℕ) → k < n → slot < most_slots → releases_in placed (plan.from + k) slot ≡ releases_in plan.placed (plan.from + k) slot) where
  alike-at : (m : ℕ) → m < n → AreAlike plan.policy plan.placed placed (plan.from + m) (plan.from + m)
  alike-at m within = grind (arith, alike-from_same)

  pub same-pending : (m slot : ℕ) → m ≤ n → slot < most_slots → pending_before (record plan { placed = placed }) m slot ≡ pending_before plan m slot
  same-pending zero slot within known = before-first (record plan { placed = placed }) slot ∙ sym (before-first plan slot)
  same-pending (suc m) slot within known =
      before-next (record plan { placed = placed }) m slot
      ∙ left-alike plan placed plan.from plan.pending (plan.from + m) (plan.from + m) (pending_before plan m) (pending_before (record plan { placed = placed }) m)
      (alike-at m (omega arith)) (λ other below. same-pending m other (omega arith) below) slot known
      ∙ sym (before-next plan m slot)

  pub same-planned : (m slot : ℕ) → m < n → slot < most_slots → planned_at (record plan { placed = placed }) m slot ≡ planned_at plan m slot
  same-planned m slot within known =
      planned-alike plan placed plan.from plan.pending (plan.from + m) (plan.from + m) (pending_before plan m) (pending_before (record plan { placed = placed }) m)
      (alike-at m within) (λ other below. same-pending m other (omega arith) below) slot known

  pub same-missed : (m slot : ℕ) → m < n → slot < most_slots → is_missed_at (record plan { placed = placed }) m slot ≡ is_missed_at plan m slot
  same-missed m slot within known =
      missed-alike plan placed plan.from plan.pending (plan.from + m) (plan.from + m) (pending_before plan m) (pending_before (record plan { placed = placed }) m)
      (alike-at m within) (λ other below. same-pending m other (omega arith) below) slot known

-- the planning that begins at the n-th cycle of another one
abbrev pub later_plan : Planning → ℕ → Planning
later_plan plan n = record plan { from = plan.from + n; pending = pending_at plan n }

alike-later : (plan : Planning) (n m : ℕ) → AreAlike plan.policy plan.placed plan.placed ((plan.from + n) + m) (plan.from + (n + m))
alike-later plan n m = grind (arith, alike-from_same)

pub on-pending : (plan : Planning) (n m slot : ℕ) → slot < most_slots → pending_before plan (n + m) slot ≡ pending_before (later_plan plan n) m slot
on-pending plan n zero slot known = grind (arith, pending-test, before-first)
on-pending plan n (suc m) slot known =
    let next : n + suc m ≡ suc (n + m) = omega arith in
    ap (λ k. pending_before plan k slot) next
    ∙ before-next plan (n + m) slot
    ∙ left-alike (later_plan plan n) plan.placed plan.from plan.pending ((plan.from + n) + m) (plan.from + (n + m)) (pending_before (later_plan plan n) m)
    (pending_before plan (n + m)) (alike-later plan n m) (λ other below. on-pending plan n m other below) slot known
    ∙ sym (before-next (later_plan plan n) m slot)

pub on-planned : (plan : Planning) (n m slot : ℕ) → slot < most_slots → planned_at plan (n + m) slot ≡ planned_at (later_plan plan n) m slot
on-planned plan n m slot known =
    planned-alike (later_plan plan n) plan.placed plan.from plan.pending ((plan.from + n) + m) (plan.from + (n + m)) (pending_before (later_plan plan n) m)
    (pending_before plan (n + m)) (alike-later plan n m) (λ other below. on-pending plan n m other below) slot known

pub on-missed : (plan : Planning) (n m slot : ℕ) → slot < most_slots → is_missed_at plan (n + m) slot ≡ is_missed_at (later_plan plan n) m slot
on-missed plan n m slot known =
    missed-alike (later_plan plan n) plan.placed plan.from plan.pending ((plan.from + n) + m) (plan.from + (n + m)) (pending_before (later_plan plan n) m)
    (pending_before plan (n + m)) (alike-later plan n m) (λ other below. on-pending plan n m other below) slot known

-- a state of a planning

alike-itself : (plan : Planning) (c : ℕ) → AreAlike plan.policy plan.placed plan.placed c c
alike-itself plan c = alike-from_same plan.policy plan.placed plan.placed c c refl (λ slot known. refl) (λ slot known. refl)

pub state-planned : (plan : Planning) (n : ℕ) → set_of most_slots (planned_in plan (plan.from + n) (has_bit (pending_at plan n))) ≡ mask_at plan n
state-planned plan n =
    set_of-same most_slots (planned_in plan (plan.from + n) (has_bit (pending_at plan n))) (planned_at plan n)
    (planned-alike plan plan.placed plan.from plan.pending (plan.from + n) (plan.from + n) (pending_before plan n) (has_bit (pending_at plan n))
    (alike-itself plan (plan.from + n)) (pending-test plan n))

pub state-left : (plan : Planning) (n : ℕ) → set_of most_slots (left_after plan (plan.from + n) (has_bit (pending_at plan n))) ≡ pending_at plan (n + 1)
state-left plan n =
    set_of-same most_slots (left_after plan (plan.from + n) (has_bit (pending_at plan n))) (pending_before plan (n + 1))
    (λ slot known.
    left-alike plan plan.placed plan.from plan.pending (plan.from + n) (plan.from + n) (pending_before plan n) (has_bit (pending_at plan n))
    (alike-itself plan (plan.from + n)) (pending-test plan n) slot known
    ∙ sym (before-next plan n slot)
    ∙ (let next : suc n ≡ n + 1 = omega arith in ap (λ k. pending_before plan k slot) next))

pub state-missed : (plan : Planning) (n slot : ℕ) → slot < most_slots
    → is_missed_in plan (plan.from + n) (has_bit (pending_at plan n)) slot ≡ is_missed_at plan n slot
state-missed plan n slot known =
    missed-alike plan plan.placed plan.from plan.pending (plan.from + n) (plan.from + n) (pending_before plan n) (has_bit (pending_at plan n))
    (alike-itself plan (plan.from + n)) (pending-test plan n) slot known

pub state-miss : (plan : Planning) (n slot release : ℕ) → IsMissIn plan (plan.from + n) (has_bit (pending_at plan n)) slot release
    → IsMissAt plan n slot release
state-miss plan n slot release miss = grind (arith, state-missed)
