-- Cycles in which plans go on in the same way, and plannings that are the same.
use Rattle.std.proofs.Common.{◌≡◌, ℕ, zero, suc, ◌+◌, ◌<◌, Bool, false, List, ◌++◌, ◌∷◌, [], refl, sym, ap, ◌∙◌, arith}
use Rattle.requirement_table.specs.declared.entries.Placed.{Placed}
use Rattle.bit_sets.specs.Sets.{has_bit, set_of, most_slots}
use Rattle.requirement_table.specs.Table.{is_last_in, releases_in, worst_in}
use Rattle.bit_sets.proofs.Shared.{has_bit-none, set_of-same, set_of-has}
use Rattle.planner_policies.specs.declared.Policy.{Policy}
use Rattle.planner_policies.specs.Plan.{HasNoMiss, Planning, Ranking, is_by, is_missed_at, is_missed_in, left_after, mask_at, pending_at, pending_before, planned_in, planning_of}
use Rattle.planner_policies.proofs.Shared.{AreAlike, left-alike, missed-alike, planned-alike}
use Rattle.admission.specs.Verdict.{masks_of}

-- two tests agree on all slots
abbrev pub Agree : (ℕ → Bool) → (ℕ → Bool) → Type 0
Agree p q = (slot : ℕ) → slot < most_slots → p slot ≡ q slot

-- in cycle `c` of one list and in cycle `d` of another the same slots release, and what may be sent costs the same,
-- stands in the same order and is in its last cycle for the same slots
pub record IsLike (policy : Policy) (one other : List Placed) (c d : ℕ) : Type 0 where
  pub releases : (slot : ℕ) → releases_in one c slot ≡ releases_in other d slot
  pub worst : (slot : ℕ) → worst_in one c slot ≡ worst_in other d slot
  pub order : (first second : ℕ) → is_by policy one c first second ≡ is_by policy other d first second
  pub last : (slot : ℕ) → is_last_in one c slot ≡ is_last_in other d slot

pub like-refl : (policy : Policy) (placed : List Placed) (c : ℕ) → IsLike policy placed placed c c
like-refl policy placed c = record { releases = λ slot. refl; worst = λ slot. refl; order = λ first second. refl; last = λ slot. refl }

pub like-sym : (policy : Policy) (one other : List Placed) (c d : ℕ) → IsLike policy one other c d → IsLike policy other one d c
like-sym policy one other c d like = grind arith

-- a set contains the slots of which it was made
pub agree-set : (p : ℕ → Bool) → Agree (has_bit (set_of most_slots p)) p
agree-set p slot known = set_of-has most_slots p slot known

pub none-set : (p : ℕ → Bool) (slot : ℕ) → set_of most_slots p ≡ 0 → slot < most_slots → p slot ≡ false
none-set p slot empty known = sym (agree-set p slot known) ∙ ap (λ mask. has_bit mask slot) empty ∙ has_bit-none slot

-- the two lists with the same ranking otherwise
module _ (ranking : Ranking) (other : List Placed) (c d : ℕ) (like : IsLike ranking.policy ranking.placed other c d) where
  alike : AreAlike ranking.policy other ranking.placed d c
  alike = grind arith

  module _ (window from till had has : ℕ) (before after : ℕ → Bool) (same : Agree before after) where
    abbrev first : Planning
    first = planning_of ranking window from had

    abbrev second : Planning
    second = planning_of (record ranking { placed = other }) window till has

    pub like-planned : Agree (planned_in first c before) (planned_in second d after)
    like-planned slot known = planned-alike second ranking.placed from had d c after before alike same slot known

    pub like-left : Agree (left_after first c before) (left_after second d after)
    like-left slot known = left-alike second ranking.placed from had d c after before alike same slot known

    pub like-missed : Agree (is_missed_in first c before) (is_missed_in second d after)
    like-missed slot known = missed-alike second ranking.placed from had d c after before alike same slot known

-- plannings of lists that are alike in each cycle up to the n-th
module _ (ranking : Ranking) (other : List Placed) (window from pending : ℕ) where
  abbrev pub first_plan : Planning
  first_plan = planning_of ranking window from pending

  abbrev pub second_plan : Planning
  second_plan = planning_of (record ranking { placed = other }) window from pending

  abbrev pub AreLike : ℕ → Type 0
  AreLike n = (m : ℕ) → m < n → IsLike ranking.policy ranking.placed other (from + m) (from + m)

  pub same-before : (n : ℕ) → AreLike n → Agree (pending_before first_plan n) (pending_before second_plan n)
  unfolding pending_before
  same-before zero like slot known = refl
  same-before (suc n) like slot known =
      like-left ranking other (from + n) (from + n) (like n (omega arith)) window from from pending pending
      (pending_before first_plan n) (pending_before second_plan n) (same-before n (λ m below. like m (omega arith))) slot known

  pub same-pending : (n : ℕ) → AreLike n → pending_at first_plan n ≡ pending_at second_plan n
  same-pending n like = set_of-same most_slots (pending_before first_plan n) (pending_before second_plan n) (same-before n like)

  pub same-mask : (n : ℕ) → AreLike (n + 1) → mask_at first_plan n ≡ mask_at second_plan n
  same-mask n like =
      set_of-same most_slots (planned_in first_plan (from + n) (pending_before first_plan n)) (planned_in second_plan (from + n) (pending_before second_plan n))
      (like-planned ranking other (from + n) (from + n) (like n (omega arith)) window from from pending pending
      (pending_before first_plan n) (pending_before second_plan n) (same-before n (λ m below. like m (omega arith))))

  pub same-masks : (n : ℕ) → AreLike n → masks_of first_plan n ≡ masks_of second_plan n
  same-masks zero like = refl
  same-masks (suc n) like =
      ap (λ masks. masks ++ mask_at first_plan n ∷ []) (same-masks n (λ m below. like m (omega arith)))
      ∙ ap (λ (mask : ℕ). masks_of second_plan n ++ mask ∷ []) (same-mask n (λ m below. like m (omega arith)))

  pub same-missed : (n : ℕ) → AreLike (n + 1) → Agree (is_missed_at first_plan n) (is_missed_at second_plan n)
  same-missed n like =
      like-missed ranking other (from + n) (from + n) (like n (omega arith)) window from from pending pending
      (pending_before first_plan n) (pending_before second_plan n) (same-before n (λ m below. like m (omega arith)))

  pub same-no_miss : (n : ℕ) → AreLike n → HasNoMiss first_plan n → HasNoMiss second_plan n
  same-no_miss n like none m slot below known =
      sym (same-missed m (λ k less. like k (omega arith)) slot known) ∙ none m slot below known
