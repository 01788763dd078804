-- Entries that are sorted by their own numbers are in the order of the policy.
use Rattle.std.proofs.Common.{◌≡◌, ℕ, zero, suc, ◌+◌, ◌-◌, ◌<◌, ◌≤◌, true, false, List, get_or, length, sym, ap, ◌∙◌, arith, is_lt, nat_cmp}
use Rattle.std.proofs.lemmas.Grind.{common_steps}
use Rattle.std.specs.Ordering.{ordering_then}
use Rattle.requirement_table.specs.declared.entries.Placed.{Placed}
use Rattle.planner_policies.specs.declared.Policy.{Policy}
use Rattle.planner_policies.specs.declared.Policy.TheVariants.{Rm, Dm, Edf}
use Rattle.planner_policies.specs.declared.due.Due.{Due}
use Rattle.planner_policies.specs.Ranked.{AreRanked, is_ranked_by, own_key}
use Rattle.planner_policies.proofs.KeyOrder.{due_by-trans}

-- the numbers of an entry that the order looks at
numbers_of : Policy → Placed → Due
numbers_of policy p = record { key = own_key policy p; priority = p.entry.priority; slot = p.entry.slot; cost = 0; release = 0; last = 0 }

ranked-trans : (policy : Policy) (p q r : Placed) → is_ranked_by policy p q ≡ true → is_ranked_by policy q r ≡ true → is_ranked_by policy p r ≡ true
unfolding numbers_of
ranked-trans policy p q r first second = due_by-trans (numbers_of policy p) (numbers_of policy q) (numbers_of policy r) first second

pub ranked-all : (policy : Policy) (rows : List Placed)
    → ((k : ℕ) (d : Placed) → k + 1 < length rows → is_ranked_by policy (get_or rows k d) (get_or rows (k + 1) d) ≡ true) → AreRanked policy rows
ranked-all policy rows next i j d before within =
    let at : i + 1 + (j - (i + 1)) ≡ j = omega arith in
    ap (λ k. is_ranked_by policy (get_or rows i d) (get_or rows k d)) (sym at) ∙ along (j - (i + 1)) (omega arith)
  where
    along : (m : ℕ) → i + 1 + m < length rows → is_ranked_by policy (get_or rows i d) (get_or rows (i + 1 + m) d) ≡ true
    along zero within =
        let at : i + 1 + 0 ≡ i + 1 = omega arith in
        ap (λ k. is_ranked_by policy (get_or rows i d) (get_or rows k d)) at ∙ next i d (omega arith)
    along (suc m) within =
        let at : i + 1 + suc m ≡ i + 1 + m + 1 = omega arith in
        ap (λ k. is_ranked_by policy (get_or rows i d) (get_or rows k d)) at
        ∙ ranked-trans policy (get_or rows i d) (get_or rows (i + 1 + m) d) (get_or rows (i + 1 + m + 1) d) (along m (omega arith)) (next (i + 1 + m) d (omega arith))

-- what a sort by these numbers ensures
abbrev IsSortedBy3 : (Placed → ℕ) → List Placed → Type 0
IsSortedBy3 key rows = (k : ℕ) (d : Placed) → 0 ≤ k → k + 1 < length rows → is_lt (ordering_then
    (ordering_then (nat_cmp (key (get_or rows (k + 1) d)) (key (get_or rows k d)))
    (nat_cmp (get_or rows (k + 1) d).entry.priority (get_or rows k d).entry.priority))
    (nat_cmp (get_or rows (k + 1) d).entry.slot (get_or rows k d).entry.slot)) ≡ false

pub ranked-rm : (rows : List Placed) → IsSortedBy3 (λ p. p.entry.period) rows → AreRanked Rm rows
ranked-rm rows sorted = ranked-all Rm rows (λ k d within. grind (arith, common_steps))

pub ranked-dm : (rows : List Placed) → IsSortedBy3 (λ p. p.entry.deadline) rows → AreRanked Dm rows
ranked-dm rows sorted = ranked-all Dm rows (λ k d within. grind (arith, common_steps))

pub ranked-edf : (rows : List Placed)
    → ((k : ℕ) (d : Placed) → 0 ≤ k → k + 1 < length rows → is_lt (ordering_then
    (nat_cmp (get_or rows (k + 1) d).entry.priority (get_or rows k d).entry.priority)
    (nat_cmp (get_or rows (k + 1) d).entry.slot (get_or rows k d).entry.slot)) ≡ false) → AreRanked Edf rows
ranked-edf rows sorted = ranked-all Edf rows (λ k d within. grind (arith, common_steps))
