-- What the rows of a set cost together, which slots they have, and sums of rows.
use Rattle.std.proofs.Common.{◌≡◌, ◌≢◌, ℕ, zero, suc, ◌+◌, ◌*◌, ◌<◌, ◌≤◌, ◌&&◌, ◌||◌, Bool, true, false, nat_eq, if◌then◌else◌, List, get_or}
use Rattle.std.proofs.lemmas.Grind.{common_steps}
use Rattle.std.proofs.Common.{refl, sym, ap, ◌∙◌, ⊎_elim, arith}
use Rattle.std.proofs.Math.Bool.{and-false, and-true, or-false, or-true, or_assoc, or_comm}
use Rattle.std.proofs.lemmas.Bool.{and_parts, both_ways, cases_eq, eq-eqb, eqb-true, ne_eqb, or_cases}
use Rattle.requirement_table.specs.declared.entries.Placed.{Placed}
use Rattle.requirement_table.specs.Instance.{worst}
use Rattle.bit_sets.specs.Sets.{has_bit, sum_where}
use Rattle.requirement_table.specs.Table.{IsInRange}
use Rattle.bit_sets.proofs.Shared.{has_bit-none, sum_where-costs, sum_where-most, sum_where-or, sum_where-same, sum_where-with, turned-eq}
use Rattle.release_wheel.specs.declared.dues.Dues.{Dues}
use Rattle.release_wheel.specs.declared.dues.Sum.{Sum}
use Rattle.release_wheel.specs.declared.rows.Rows.{Rows}
use Rattle.release_wheel.specs.Wheel.{HasRoom, IsAdded, IsSumOf, any_below, cost_at, cost_below, no_entry, slot_at}

pub cost-bound : (entries : List Placed) (n set : ℕ) → ((row : ℕ) → row < n → IsInRange (get_or entries row no_entry))
    → cost_below entries n set ≤ n * 135
cost-bound entries n set range = sum_where-most n 135 (has_bit set) (cost_at entries) (λ row below. let few = (range row below).entry.length in omega arith)

-- what waits and what has an instance in each cycle cost little
pub costs-small : (n : ℕ) (rows : Rows) (dues : Dues) → HasRoom n rows dues → (dues.waiting.cost ≤ 17280) × (dues.always.cost ≤ 17280)
costs-small n rows dues room = grind (arith, cost-bound)

-- one more row
pub cost-with : (entries : List Placed) (n set more row : ℕ) → row < n → has_bit set row ≡ false
    → ((other : ℕ) → has_bit more other ≡ (nat_eq row other || has_bit set other))
    → cost_below entries n more ≡ cost_below entries n set + cost_at entries row
cost-with entries n set more row within none made =
    let same = sum_where-same n (has_bit more) (λ other. nat_eq row other || has_bit set other) (cost_at entries) (λ other below. made other) in
    let one = sum_where-with n row (has_bit set) (cost_at entries) within none in
    omega arith

pub any-same : (n : ℕ) (p q : ℕ → Bool) → ((i : ℕ) → i < n → p i ≡ q i) → any_below n p ≡ any_below n q
unfolding any_below
any-same zero p q same = refl
any-same (suc n) p q same =
    let rest = any-same n p q (λ i below. same i (omega arith)) in
    grind arith

pub any-none : (n : ℕ) → any_below n (λ _. false) ≡ false
unfolding any_below
any-none zero = refl
any-none (suc n) = let rest = any-none n in rw rest refl

-- a row that passes is one that does
pub any-found : (n row : ℕ) (p : ℕ → Bool) → row < n → p row ≡ true → any_below n p ≡ true
unfolding any_below
any-found zero row p within passes = absurd (omega arith)
any-found (suc n) row p within passes =
    ⊎_elim
    (λ (same : row ≡ n). let last : p n ≡ true = ap p (sym same) ∙ passes in rw last (or-true (any_below n p)))
    (λ (other : row ≢ n). let rest = any-found n row p (omega arith) passes in rw rest refl)
    (cases_eq row n)

pub record IsOneBelow (n : ℕ) (p : ℕ → Bool) : Type 0 where
  pub row : ℕ
  pub within : row < n
  pub passes : p row ≡ true

pub one-below : (n : ℕ) (p : ℕ → Bool) → any_below n p ≡ true → IsOneBelow n p
unfolding any_below
one-below zero p any = absurd (cc)
one-below (suc n) p any = pick (any_below n p) (p n) refl refl any (one-below n p)
  where
    pick : (a b : Bool) → any_below n p ≡ a → p n ≡ b → (a || b) ≡ true → (any_below n p ≡ true → IsOneBelow n p) → IsOneBelow (suc n) p
    pick a b rest last any low = grind arith

-- one more row adds its own
pub any-with : (n row : ℕ) (p q : ℕ → Bool) → row < n
    → any_below n (λ i. (nat_eq row i || p i) && q i) ≡ (q row || any_below n (λ i. p i && q i))
unfolding any_below
any-with zero row p q within = absurd (omega arith)
any-with (suc n) row p q within =
    ⊎_elim
    (λ (same : row ≡ n). grind (arith, eq-eqb, any-same, ne_eqb, turned))
    (λ (other : row ≢ n).
    let is : nat_eq row n ≡ false = ne_eqb row n other in
    let low = any-with n row p q (omega arith) in
    rw (is, low) (or_assoc (q row) (any_below n (λ i. p i && q i)) (p n && q n)))
    (cases_eq row n)
  where
    turned : (a b c : Bool) → (a || b) ≡ (b || (a || (c && b)))
    turned a b c = grind (arith, common_steps)

pub none-below : (p : ℕ → Bool) → false ≡ any_below 0 p
unfolding any_below
none-below p = refl

no-cost : (entries : List Placed) (set : ℕ) → 0 ≡ cost_below entries 0 set
unfolding sum_where
no-cost entries set = refl

-- the sum of no rows
pub sum-none : (entries : List Placed) (sum : Sum) → sum.rows ≡ 0 → ((slot : ℕ) → has_bit sum.slots slot ≡ false) → sum.cost ≡ 0
    → IsSumOf entries 0 sum
sum-none entries sum rows slots cost = grind (arith, both_ways, has_bit-none, none-below, no-cost)

-- a sum with one row more
module _ (entries : List Placed) (n row : ℕ) (sum more : Sum) (within : row < n) (out : has_bit sum.rows row ≡ false)
    (added : IsAdded (get_or entries row no_entry) row true sum more) (was : IsSumOf entries n sum) where
  pub sum-with : IsSumOf entries n more
  sum-with = record {
    below = grind (arith, eqb-true, or_cases);
    slots = λ slot.
        added.slots slot
        ∙ ap (λ b. b || has_bit sum.slots slot) (turned-eq slot (slot_at entries row))
        ∙ ap (λ b. nat_eq (slot_at entries row) slot || b) (was.slots slot)
        ∙ sym (any-with n row (has_bit sum.rows) (λ i. nat_eq (slot_at entries i) slot) within)
        ∙ any-same n (λ i. (nat_eq row i || has_bit sum.rows i) && nat_eq (slot_at entries i) slot) (λ i. has_bit more.rows i && nat_eq (slot_at entries i) slot)
        (λ i below. ap (λ b. b && nat_eq (slot_at entries i) slot) (sym (added.rows i)));
    cost = added.cost ∙ ap (λ c. c + cost_at entries row) was.cost ∙ sym (cost-with entries n sum.rows more.rows row within out added.rows);
  }

-- a sum of the rows before one, and then that one, where it is wanted
module _ (old new : List Placed) (n : ℕ) (p : Placed) (flag : Bool) (sum more : Sum) (was : IsSumOf old n sum) (added : IsAdded p n flag sum more)
    (here : get_or new n no_entry ≡ p) (others : (i : ℕ) → nat_eq n i ≡ false → get_or new i no_entry ≡ get_or old i no_entry) where
  last-out : has_bit sum.rows n ≡ false
  last-out = pick (has_bit sum.rows n) refl
    where
      pick : (b : Bool) → has_bit sum.rows n ≡ b → b ≡ false
      pick b in' = grind arith

  pub added-other : (i : ℕ) → nat_eq n i ≡ false → has_bit more.rows i ≡ has_bit sum.rows i
  added-other i other = added.rows i ∙ ap (λ b. (flag && b) || has_bit sum.rows i) other ∙ ap (λ b. b || has_bit sum.rows i) (and-false flag)

  pub added-here : has_bit more.rows n ≡ flag
  added-here = grind (arith, eq-eqb, last-out, or-false, and-true)

  apart : (i : ℕ) → i < n → nat_eq n i ≡ false
  apart i less = ne_eqb n i (λ same. omega arith)

  pub sum-next : IsSumOf new (suc n) more
  unfolding any_below sum_where
  sum-next = record {
    below = grind (arith, eqb-true, and_parts, or_cases);
    slots = λ slot.
        added.slots slot
        ∙ ap (λ b. (flag && b) || has_bit sum.slots slot) (turned-eq slot p.entry.slot)
        ∙ or_comm (flag && nat_eq p.entry.slot slot) (has_bit sum.slots slot)
        ∙ ap (λ b. b || (flag && nat_eq p.entry.slot slot)) (was.slots slot
        ∙ any-same n (λ i. has_bit sum.rows i && nat_eq (slot_at old i) slot) (λ i. has_bit more.rows i && nat_eq (slot_at new i) slot)
        (λ i less. grind (arith, common_steps, added-other, apart)))
        ∙ ap (λ b. any_below n (λ i. has_bit more.rows i && nat_eq (slot_at new i) slot) || (b && nat_eq p.entry.slot slot)) (sym added-here)
        ∙ ap (λ q. any_below n (λ i. has_bit more.rows i && nat_eq (slot_at new i) slot) || (has_bit more.rows n && nat_eq q.entry.slot slot)) (sym here);
    cost =
        let low = sum_where-same n (has_bit more.rows) (has_bit sum.rows) (cost_at new) (λ i less. added-other i (apart i less)) in
        let costs = sum_where-costs n (has_bit sum.rows) (cost_at new) (cost_at old) (λ i less _. ap (λ q. worst q.entry.length) (others i (apart i less))) in
        let last : (if has_bit more.rows n then cost_at new n else 0) ≡ (if flag then worst p.entry.length else 0)
        = ap (λ b. if b then cost_at new n else 0) added-here ∙ ap (λ q. if flag then worst q.entry.length else 0) here in
        omega arith;
  }

-- the rows of two sets that have none in common
pub cost-both : (entries : List Placed) (n one other both : ℕ) → ((i : ℕ) → has_bit one i ≡ true → has_bit other i ≡ false)
    → ((i : ℕ) → has_bit both i ≡ (has_bit one i || has_bit other i)) → cost_below entries n both ≡ cost_below entries n one + cost_below entries n other
cost-both entries n one other both apart made =
    sum_where-same n (has_bit both) (λ i. has_bit one i || has_bit other i) (cost_at entries) (λ i below. made i)
    ∙ sym (sum_where-or n (has_bit one) (has_bit other) (cost_at entries) apart)
