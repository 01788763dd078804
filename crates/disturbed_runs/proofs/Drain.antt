-- Jobs that are offered until they are done, on a line that is lost for a part of the time: they are all done in time.
use Rattle.std.proofs.Common.{◌≡◌, ◌≢◌, ℕ, zero, suc, ◌+◌, ◌-◌, ◌<◌, ◌≤◌, min, max, Bool, true, false, cond, List, [], ◌∷◌, AllPairs, Contains, ◌⊎◌, inl, inr, refl, sym, ap, ◌∙◌, subst, arith, add-suc, ◌&&◌, eqb, not}
use Rattle.std.specs.Prelude.{nat_le, nat_lt, sum_by}
use Rattle.std.proofs.lemmas.Bool.{and_from, and_parts, cases_Bool, cases_lt, eq-eqb, eqb-true, false≢true, leb-true, le-leb, lt-ltb, ltb-true, ne_eqb}
use Rattle.std.proofs.lemmas.List.Sums.{sum_by-cons}
use Rattle.std.proofs.lemmas.List.Elements.{All-contains}
use Rattle.bit_sets.specs.Sets.{sum_where}
use Rattle.bit_sets.proofs.Shared.{sum_where-without}
use Rattle.bus_line.proofs.Shared.{AllPairs-head, AllPairs-tail}
use Rattle.cycle_engine.proofs.Shared.{Contains-cases, Contains-here, Contains-later, Contains-nil}

-- Intervals that cover times

-- of an interval, the bit times from `low` to below `high`
abbrev pub part_of : ℕ → ℕ → ℕ → ℕ → ℕ
part_of low high start len = min (start + len) high - max start low

part-more : (low high start len : ℕ) → part_of low high start len ≤ part_of low (suc high) start len
part-more low high start len = omega arith

part-by : (low high later start len : ℕ) → high ≤ later → part_of low high start len ≤ part_of low later start len
part-by low high later start len order = omega (arith, order)

part-one : (low high start len : ℕ) → low ≤ high → start ≤ high → high < start + len → part_of low high start len + 1 ≤ part_of low (suc high) start len
part-one low high start len order from before = omega (arith, order, from, before)

part-all : (low high start len : ℕ) → part_of low high start len ≤ len
part-all low high start len = omega arith

module _ {Z : Type 0} (start span : Z → ℕ) (test : Z → Bool) (low : ℕ) where
  abbrev one_of : ℕ → Z → ℕ
  one_of high z = cond (test z) (part_of low high (start z) (span z)) 0

  abbrev pub parts : ℕ → List Z → ℕ
  parts high zs = sum_by (one_of high) zs

  pub record IsCovering (zs : List Z) (at : ℕ) : Type 0 where
    pub it : Z
    pub among : Contains zs it
    pub passes : test it ≡ true
    pub from : start it ≤ at
    pub before : at < start it + span it

  one-more : (high later : ℕ) (b : Bool) (z : Z) → high ≤ later → cond b (part_of low high (start z) (span z)) 0 ≤ cond b (part_of low later (start z) (span z)) 0
  one-more high later true z order = part-by low high later (start z) (span z) order
  one-more high later false z order = omega arith

  pub parts-more : (high later : ℕ) (zs : List Z) → high ≤ later → parts high zs ≤ parts later zs
  parts-more high later [] order = omega arith
  parts-more high later (z ∷ zs) order =
      omega (arith, sum_by-cons (one_of high) z zs, sum_by-cons (one_of later) z zs, one-more high later (test z) z order, parts-more high later zs order)

  one-one : (high : ℕ) (b : Bool) (z : Z) → b ≡ true → low ≤ high → start z ≤ high → high < start z + span z
      → cond b (part_of low high (start z) (span z)) 0 + 1 ≤ cond b (part_of low (suc high) (start z) (span z)) 0
  one-one high true z passes order from before = part-one low high (start z) (span z) order from before
  one-one high false z passes order from before = absurd (cc)

  pub parts-one : (high : ℕ) (zs : List Z) (z : Z) → Contains zs z → test z ≡ true → low ≤ high → start z ≤ high → high < start z + span z
      → parts high zs + 1 ≤ parts (suc high) zs
  parts-one high [] z has passes order from before = absurd (Contains-nil z has)
  parts-one high (x ∷ xs) z has passes order from before =
      let now = sum_by-cons (one_of high) x xs in
      let then_ = sum_by-cons (one_of (suc high)) x xs in
      elim (Contains-cases x xs z has) [
        | inl same ↦
            let one = one-one high (test x) x (ap test same ∙ passes) order (subst (λ y. start y ≤ high) (sym same) from)
            (subst (λ y. high < start y + span y) (sym same) before) in
            omega (arith, now, then_, one, parts-more high (suc high) xs (omega arith))
        | inr later ↦
            omega (arith, now, then_, one-more high (suc high) (test x) x (omega arith), parts-one high xs z later passes order from before)
      ]

  one-all : (high : ℕ) (b : Bool) (z : Z) → cond b (part_of low high (start z) (span z)) 0 ≤ cond b (span z) 0
  one-all high true z = part-all low high (start z) (span z)
  one-all high false z = omega arith

  pub parts-all : (high : ℕ) (zs : List Z) → parts high zs ≤ sum_by (λ z. cond (test z) (span z) 0) zs
  parts-all high [] = omega arith
  parts-all high (z ∷ zs) =
      omega (arith, sum_by-cons (one_of high) z zs, sum_by-cons (λ y. cond (test y) (span y) 0) z zs, one-all high (test z) z, parts-all high zs)

-- times that are all covered, by one kind of interval or by another, are no more than the parts of these
module _ {X Y : Type 0} (start len : X → ℕ) (test : X → Bool) (begin span : Y → ℕ) (low : ℕ) (xs : List X) (ys : List Y) where
  abbrev any_of : Y → Bool
  any_of y = true

  pub covered : (k : ℕ) → ((at : ℕ) → low ≤ at → at < low + k → IsCovering start len test low xs at ⊎ IsCovering begin span any_of low ys at)
      → k ≤ parts start len test low (low + k) xs + parts begin span any_of low (low + k) ys
  covered zero all = omega arith
  covered (suc k) all =
      let sofar = covered k (λ at from before. all at from (omega (arith, before))) in
      let next : low + suc k ≡ suc (low + k) = add-suc low k in
      let order : low ≤ low + k = omega arith in
      let more_x = parts-more start len test low (low + k) (suc (low + k)) xs (omega arith) in
      let more_y = parts-more begin span any_of low (low + k) (suc (low + k)) ys (omega arith) in
      rw next (elim (all (low + k) order (omega arith)) [
        | inl is ↦
            let one = parts-one start len test low (low + k) xs is.it is.among is.passes order is.from is.before in
            omega (arith, sofar, one, more_y)
        | inr is ↦
            let one = parts-one begin span any_of low (low + k) ys is.it is.among is.passes order is.from is.before in
            omega (arith, sofar, one, more_x)
      ])

-- Jobs

-- the flags without one number
abbrev pub less_one : (ℕ → Bool) → ℕ → ℕ → Bool
less_one flagged i s = flagged s && not (eqb s i)

less-here : (flagged : ℕ → Bool) (i : ℕ) → less_one flagged i i ≡ false
less-here flagged i = drop-it (flagged i) (eqb i i) (eq-eqb i i refl)
  where
    drop-it : (a b : Bool) → b ≡ true → (a && not b) ≡ false
    drop-it true b is = rw is refl
    drop-it false b is = refl

less-there : (flagged : ℕ → Bool) (i s : ℕ) → s ≢ i → less_one flagged i s ≡ flagged s
less-there flagged i s other = keep-it (flagged s) (eqb s i) (ne_eqb s i other)
  where
    keep-it : (a b : Bool) → b ≡ false → (a && not b) ≡ a
    keep-it true b is = rw is refl
    keep-it false b is = refl

module _ {X : Type 0} (id len : X → ℕ) (base n : ℕ) (cost : ℕ → ℕ) where
  -- what a job is: a flagged number's, and no longer than that one costs
  pub record IsJob (flagged : ℕ → Bool) (x : X) : Type 0 where
    pub number : ℕ
    pub below : number < n
    pub flag : flagged number ≡ true
    pub named : id x ≡ base + number
    pub short : len x ≤ cost number

  abbrev time_if : (X → Bool) → X → ℕ
  time_if p x = cond (p x) (len x) 0

  -- jobs of distinct numbers take no more than the flagged numbers cost
  pub jobs-fit : (p : X → Bool) (flagged : ℕ → Bool) (xs : List X)
      → ((x : X) → Contains xs x → p x ≡ true → IsJob flagged x)
      → AllPairs (λ x y. p x ≡ true → p y ≡ true → id x ≢ id y) xs
      → sum_by (time_if p) xs ≤ sum_where n flagged cost
  jobs-fit p flagged [] jobs pairs = omega arith
  jobs-fit p flagged (x ∷ xs) jobs pairs =
      let sum = sum_by-cons (time_if p) x xs in
      let pairs_later = AllPairs-tail (λ a b. p a ≡ true → p b ≡ true → id a ≢ id b) x xs pairs in
      let first = AllPairs-head (λ a b. p a ≡ true → p b ≡ true → id a ≢ id b) x xs pairs in
      elim (cases_Bool (p x)) [
        | inl passes ↦
            let job = jobs x (Contains-here x xs) passes in
            let less = less_one flagged job.number in
            let without = sum_where-without n job.number flagged less cost job.below job.flag (less-here flagged job.number)
            (λ s within other. less-there flagged job.number s other) in
            let rest = jobs-fit p less xs (λ y has ok_.
            let its = jobs y (Contains-later x xs y has) ok_ in
            let other : its.number ≢ job.number = λ same. All-contains (λ b. p x ≡ true → p b ≡ true → id x ≢ id b) xs y first has passes ok_ (job.named ∙ ap (λ m. base + m) (sym same) ∙ sym its.named) in
            record {
              number = its.number;
              below = its.below;
              flag = less-there flagged job.number its.number other ∙ its.flag;
              named = its.named;
              short = its.short;
            }) pairs_later in
            let here : time_if p x ≡ len x = ap (λ b. cond b (len x) 0) passes in
            omega (arith, sum, without, rest, here, job.short)
        | inr fails ↦
            let here : time_if p x ≡ 0 = ap (λ b. cond b (len x) 0) fails in
            let rest = jobs-fit p flagged xs (λ y has ok_. jobs y (Contains-later x xs y has) ok_) pairs_later in
            omega (arith, sum, rest, here)
      ]

-- one that passes, or none
pub some-or_none : {X : Type 0} (q : X → Bool) (xs : List X) → ((x : X) × Contains xs x × (q x ≡ true)) ⊎ ((x : X) → Contains xs x → q x ≡ false)
some-or_none q [] = inr (λ x has. absurd (Contains-nil x has))
some-or_none {X} q (x ∷ xs) = elim (cases_Bool (q x)) [
  | inl ok_ ↦ inl (x, Contains-here x xs, ok_)
  | inr fails_ ↦ elim (some-or_none q xs) [
    | inl (y, has, passes) ↦ inl (y, Contains-later x xs y has, passes)
    | inr none ↦ inr (λ y has. elim (Contains-cases x xs y has) [
      | inl same ↦ ap q (sym same) ∙ fails_
      | inr later ↦ none y later
    ])
  ]
]

-- what began at a time or behind it
abbrev pub is_from : {X : Type 0} → (X → ℕ) → ℕ → X → Bool
is_from start low x = nat_le low (start x)

module _ {X Y : Type 0} (start len id : X → ℕ) (begin span : Y → ℕ) (xs : List X) (ys : List Y) where
  abbrev pub any_y : Y → Bool
  any_y y = true

  pub record Drains (low high room base n : ℕ) (flagged : ℕ → Bool) (cost : ℕ → ℕ) : Type 0 where
    -- what was not begun is offered while it still ends in time, so the line is busy or lost
    pub busy : (i at : ℕ) → i < n → flagged i ≡ true → low ≤ at → at + cost i ≤ high
        → ((x : X) → Contains xs x → id x ≡ base + i → low ≤ start x → start x < at → ⊥)
        → IsCovering start len (is_from start low) low xs at ⊎ IsCovering begin span any_y low ys at
    pub jobs : (x : X) → Contains xs x → low ≤ start x → start x < high → IsJob id len base n cost flagged x
    pub pairs : AllPairs (λ x y. low ≤ start x → start x < high → low ≤ start y → start y < high → id x ≢ id y) xs
    pub lost : parts begin span any_y low high ys ≤ room
    pub fits : low + sum_where n flagged cost + room ≤ high
    pub some : (i : ℕ) → i < n → flagged i ≡ true → 0 < cost i

  pub record IsDone (low high base i : ℕ) (cost : ℕ → ℕ) : Type 0 where
    pub it : X
    pub among : Contains xs it
    pub named : id it ≡ base + i
    pub after : low ≤ start it
    pub before : start it + cost i ≤ high

  module _ (low high room base n : ℕ) (flagged : ℕ → Bool) (cost : ℕ → ℕ) (drains : Drains low high room base n flagged cost) where
    module _ (i : ℕ) (below : i < n) (flag : flagged i ≡ true) where
      abbrev less : ℕ → Bool
      less = less_one flagged i

      without : sum_where n less cost + cost i ≡ sum_where n flagged cost
      without = sum_where-without n i flagged less cost below flag (less-here flagged i) (λ s within other. less-there flagged i s other)

      abbrev k : ℕ
      k = sum_where n less cost + room + 1

      last : low + k ≤ high
      last = omega (arith, without, drains.fits, drains.some i below flag)

      abbrev inside : X → Bool
      inside x = nat_le low (start x) && nat_lt (start x) (low + k)

      abbrev its : X → Bool
      its x = eqb (id x) (base + i) && inside x

      inside-from : (x : X) → low ≤ start x → start x < low + k → inside x ≡ true
      inside-from x from before = and_from (nat_le low (start x)) (nat_lt (start x) (low + k)) (le-leb low (start x) from) (lt-ltb (start x) (low + k) before)

      inside-parts : (x : X) → inside x ≡ true → (low ≤ start x) × (start x < low + k)
      inside-parts x is =
          let two = and_parts (nat_le low (start x)) (nat_lt (start x) (low + k)) is in
          (leb-true low (start x) two.0, ltb-true (start x) (low + k) two.1)

      none-late : ((x : X) → Contains xs x → its x ≡ false) → ⊥
      none-late none =
          let not-its : (x : X) → Contains xs x → id x ≡ base + i → low ≤ start x → start x < low + k → ⊥ = λ x has same from before.
          false≢true (sym (none x has) ∙ and_from (eqb (id x) (base + i)) (inside x) (eq-eqb (id x) (base + i) same) (inside-from x from before)) in
          let all : (at : ℕ) → low ≤ at → at < low + k → IsCovering start len inside low xs at ⊎ IsCovering begin span any_y low ys at = λ at from before.
          elim (drains.busy i at below flag from (omega (arith, before, without, drains.fits)) (λ x has same after started. not-its x has same after (omega (arith, started, before)))) [
            | inl is ↦
                let opened : low ≤ start is.it = leb-true low (start is.it) is.passes in
                inl (record {
                  it = is.it;
                  among = is.among;
                  passes = inside-from is.it opened (omega (arith, is.from, before));
                  from = is.from;
                  before = is.before;
                })
            | inr is ↦ inr is
          ] in
          let count = covered start len inside begin span low xs ys k all in
          let jobs : (x : X) → Contains xs x → inside x ≡ true → IsJob id len base n cost less x = λ x has ok_.
          let two = inside-parts x ok_ in
          let job = drains.jobs x has two.0 (omega (arith, two.1, last)) in
          let other : job.number ≢ i = λ same. not-its x has (job.named ∙ ap (λ m. base + m) same) two.0 two.1 in
          record {
            number = job.number;
            below = job.below;
            flag = less-there flagged i job.number other ∙ job.flag;
            named = job.named;
            short = job.short;
          } in
          let pairs : AllPairs (λ x y. inside x ≡ true → inside y ≡ true → id x ≢ id y) xs = λ a b d order within ok_ also.
          let one = inside-parts _ ok_ in
          let two = inside-parts _ also in
          drains.pairs a b d order within one.0 (omega (arith, one.1, last)) two.0 (omega (arith, two.1, last)) in
          let sum = jobs-fit id len base n cost inside less xs jobs pairs in
          let whole = parts-all start len inside low (low + k) xs in
          let gone = parts-more begin span any_y low (low + k) high ys last in
          omega (arith, count, sum, whole, gone, drains.lost)

      pub done : IsDone low high base i cost
      done = elim (some-or_none its xs) [
        | inl (x, has, ok_) ↦
            let two = and_parts (eqb (id x) (base + i)) (inside x) ok_ in
            let when_ = inside-parts x two.1 in
            record {
              it = x;
              among = has;
              named = eqb-true (id x) (base + i) two.0;
              after = when_.0;
              before = omega (arith, when_.1, without, drains.fits);
            }
        | inr none ↦ absurd (none-late none)
      ]
