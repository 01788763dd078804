-- Sums over the numbers below one that pass a test.
use Rattle.std.proofs.Common.{◌≡◌, ◌≢◌, ℕ, zero, suc, ◌+◌, ◌*◌, ◌<◌, ◌≤◌, ◌||◌, Bool, true, false, nat_eq, if◌then◌else◌, refl, sym, ap, ◌∙◌, ⊎_elim, arith}
use Rattle.std.proofs.lemmas.Bool.{cases_eq, eq-eqb, eqb-true, ne_eqb}
use Rattle.bit_sets.specs.Sets.{sum_where}

pub sum_where-zero : (p : ℕ → Bool) (f : ℕ → ℕ) → sum_where 0 p f ≡ 0
unfolding sum_where
sum_where-zero p f = refl

pub sum_where-next : (n : ℕ) (p : ℕ → Bool) (f : ℕ → ℕ) → sum_where (suc n) p f ≡ sum_where n p f + (if p n then f n else 0)
unfolding sum_where
sum_where-next n p f = refl

-- two tests that agree below `n` give one sum
pub sum_where-same : (n : ℕ) (p q : ℕ → Bool) (f : ℕ → ℕ) → ((s : ℕ) → s < n → p s ≡ q s) → sum_where n p f ≡ sum_where n q f
unfolding sum_where
sum_where-same zero p q f same = refl
sum_where-same (suc n) p q f same =
    let rest = sum_where-same n p q f (λ s below. same s (omega arith)) in
    grind arith

-- and so do two functions that agree on what passes
pub sum_where-costs : (n : ℕ) (p : ℕ → Bool) (f g : ℕ → ℕ) → ((s : ℕ) → s < n → p s ≡ true → f s ≡ g s) → sum_where n p f ≡ sum_where n p g
unfolding sum_where
sum_where-costs zero p f g same = refl
sum_where-costs (suc n) p f g same =
    let rest = sum_where-costs n p f g (λ s below. same s (omega arith)) in
    grind (arith, here)
  where
    here : (b : Bool) → (b ≡ true → f n ≡ g n) → (if b then f n else 0) ≡ (if b then g n else 0)
    here b same = grind arith

-- nothing passes
pub sum_where-none : (n : ℕ) (p : ℕ → Bool) (f : ℕ → ℕ) → ((s : ℕ) → s < n → p s ≡ false) → sum_where n p f ≡ 0
unfolding sum_where
sum_where-none zero p f none = refl
sum_where-none (suc n) p f none =
    let rest = sum_where-none n p f (λ s below. none s (omega arith)) in
    grind arith

-- how many there are
pub sum_where-count : (n : ℕ) → sum_where n (λ _. true) (λ _. 1) ≡ n
unfolding sum_where
sum_where-count zero = refl
sum_where-count (suc n) = let rest = sum_where-count n in omega arith

-- none adds more than `most`
pub sum_where-most : (n most : ℕ) (p : ℕ → Bool) (f : ℕ → ℕ) → ((s : ℕ) → s < n → f s ≤ most) → sum_where n p f ≤ n * most
unfolding sum_where
sum_where-most zero most p f each = omega arith
sum_where-most (suc n) most p f each =
    let rest = sum_where-most n most p f (λ s below. each s (omega arith)) in
    grind (arith, step)
  where
    step : (b : Bool) (x : ℕ) → x ≤ most → (if b then x else 0) ≤ most
    step b x few = grind arith

-- a function that gives no more on what passes gives no greater sum
pub sum_where-fewer : (n : ℕ) (p : ℕ → Bool) (f g : ℕ → ℕ) → ((s : ℕ) → s < n → p s ≡ true → f s ≤ g s) → sum_where n p f ≤ sum_where n p g
unfolding sum_where
sum_where-fewer zero p f g fewer = omega arith
sum_where-fewer (suc n) p f g fewer =
    let rest = sum_where-fewer n p f g (λ s below. fewer s (omega arith)) in
    let here = step (p n) (f n) (g n) (fewer n (omega arith)) in
    omega arith
  where
    step : (b : Bool) (x y : ℕ) → (b ≡ true → x ≤ y) → (if b then x else 0) ≤ (if b then y else 0)
    step b x y less = grind arith

-- the sum of two functions
pub sum_where-add : (n : ℕ) (p : ℕ → Bool) (f g h : ℕ → ℕ) → ((s : ℕ) → s < n → h s ≡ f s + g s)
    → sum_where n p h ≡ sum_where n p f + sum_where n p g
unfolding sum_where
sum_where-add zero p f g h each = refl
sum_where-add (suc n) p f g h each =
    let rest = sum_where-add n p f g h (λ s below. each s (omega arith)) in
    let here = step (p n) (h n) (f n) (g n) (each n (omega arith)) in
    omega arith
  where
    step : (b : Bool) (x y z : ℕ) → x ≡ y + z → (if b then x else 0) ≡ (if b then y else 0) + (if b then z else 0)
    step b x y z is = grind arith

-- a function that gives something at one number alone
pub sum_where-one : (n k x : ℕ) (p : ℕ → Bool)
    → (n ≤ k → sum_where n p (λ s. if nat_eq k s then x else 0) ≡ 0)
    × (k < n → sum_where n p (λ s. if nat_eq k s then x else 0) ≡ (if p k then x else 0))
unfolding sum_where
sum_where-one zero k x p = (λ _. refl, λ below. absurd (omega arith))
sum_where-one (suc n) k x p =
    let rest = sum_where-one n k x p in
    ⊎_elim
    (λ (same : k ≡ n).
    let one : (if nat_eq k n then x else 0) ≡ x = ap (λ (b : Bool). if b then x else 0) (eq-eqb k n same) in
    let here : (if p n then (if nat_eq k n then x else 0) else 0) ≡ (if p k then x else 0)
    = ap (λ (y : ℕ). if p n then y else 0) one ∙ ap (λ (s : ℕ). if p s then x else 0) (sym same) in
    let none = rest.0 (omega arith) in
    (λ above. absurd (omega arith), λ below. omega arith))
    (λ (other : k ≢ n).
    let one : (if nat_eq k n then x else 0) ≡ 0 = ap (λ (b : Bool). if b then x else 0) (ne_eqb k n other) in
    let here : (if p n then (if nat_eq k n then x else 0) else 0) ≡ 0 = nothing (p n) (if nat_eq k n then x else 0) one in
    (λ above. let none = rest.0 (omega arith) in omega arith, λ below. let some = rest.1 (omega arith) in omega arith))
    (cases_eq k n)
  where
    nothing : (b : Bool) (y : ℕ) → y ≡ 0 → (if b then y else 0) ≡ 0
    nothing b y none = grind arith

-- one that passes is left out
pub sum_where-without : (n k : ℕ) (p q : ℕ → Bool) (f : ℕ → ℕ) → k < n → p k ≡ true → q k ≡ false
    → ((s : ℕ) → s < n → s ≢ k → q s ≡ p s) → sum_where n q f + f k ≡ sum_where n p f
unfolding sum_where
sum_where-without zero k p q f within has lacks others = absurd (omega arith)
sum_where-without (suc n) k p q f within has lacks others =
    ⊎_elim
    (λ (here : k ≡ n). grind (arith, sum_where-same, here))
    (λ (there : k ≢ n).
    let front = sum_where-without n k p q f (omega arith) has lacks (λ s below. others s (omega arith)) in
    let last : (if q n then f n else 0) ≡ (if p n then f n else 0)
    = ap (λ (b : Bool). if b then f n else 0) (others n (omega arith) (λ same. there (sym same))) in
    omega arith)
    (cases_eq k n)

-- one more adds its own
pub sum_where-with : (n k : ℕ) (p : ℕ → Bool) (f : ℕ → ℕ) → k < n → p k ≡ false
    → sum_where n (λ s. nat_eq k s || p s) f ≡ f k + sum_where n p f
sum_where-with n k p f within lacks =
    let sum = sum_where-without n k (λ s. nat_eq k s || p s) p f within (ap (λ b. b || p k) (eq-eqb k k refl)) lacks
    (λ s below other. sym (ap (λ b. b || p s) (ne_eqb k s (λ same. other (sym same))))) in
    omega arith

-- what passes adds no more than all
pub sum_where-member : (n k : ℕ) (p : ℕ → Bool) (f : ℕ → ℕ) → k < n → p k ≡ true → f k ≤ sum_where n p f
unfolding sum_where
sum_where-member zero k p f within has = absurd (omega arith)
sum_where-member (suc n) k p f within has =
    ⊎_elim
    (λ (here : k ≡ n). let one : (if p n then f n else 0) ≡ f k = rw (sym here, has) refl in omega arith)
    (λ (there : k ≢ n). let front = sum_where-member n k p f (omega arith) has in omega arith)
    (cases_eq k n)

-- a wider test gives no lesser sum
pub sum_where-le : (n : ℕ) (p q : ℕ → Bool) (f : ℕ → ℕ) → ((s : ℕ) → s < n → p s ≡ true → q s ≡ true) → sum_where n p f ≤ sum_where n q f
unfolding sum_where
sum_where-le zero p q f wider = omega arith
sum_where-le (suc n) p q f wider =
    let rest = sum_where-le n p q f (λ s below. wider s (omega arith)) in
    let here = step (p n) (q n) (f n) (wider n (omega arith)) in
    omega arith
  where
    step : (a b : Bool) (x : ℕ) → (a ≡ true → b ≡ true) → (if a then x else 0) ≤ (if b then x else 0)
    step a b x both = grind arith

-- what passes the wider test alone adds its own
pub sum_where-less : (n k : ℕ) (p q : ℕ → Bool) (f : ℕ → ℕ) → k < n → p k ≡ false → q k ≡ true → ((s : ℕ) → s < n → p s ≡ true → q s ≡ true)
    → f k + sum_where n p f ≤ sum_where n q f
sum_where-less n k p q f within lacks has wider =
    let more : sum_where n (λ s. nat_eq k s || p s) f ≤ sum_where n q f
    = sum_where-le n (λ s. nat_eq k s || p s) q f (λ s below passes. either (nat_eq k s) (p s) (q s) passes (wider s below) (λ here. at s here)) in
    rw (sum_where-with n k p f within lacks) at more
  where
    at : (s : ℕ) → nat_eq k s ≡ true → q s ≡ true
    at s same = ap q (sym (eqb-true k s same)) ∙ has

    either : (a b c : Bool) → (a || b) ≡ true → (b ≡ true → c ≡ true) → (a ≡ true → c ≡ true) → c ≡ true
    either a b c one left right = grind arith

-- two tests that nothing passes together
pub sum_where-or : (n : ℕ) (p q : ℕ → Bool) (f : ℕ → ℕ) → ((s : ℕ) → p s ≡ true → q s ≡ false) → sum_where n p f + sum_where n q f ≡ sum_where n (λ s. p s || q s) f
unfolding sum_where
sum_where-or zero p q f apart = refl
sum_where-or (suc n) p q f apart =
    let rest = sum_where-or n p q f apart in
    let here = step (p n) (q n) (f n) (apart n) in
    omega arith
  where
    step : (a b : Bool) (x : ℕ) → (a ≡ true → b ≡ false) → (if a then x else 0) + (if b then x else 0) ≡ (if a || b then x else 0)
    step a b x apart = grind arith
