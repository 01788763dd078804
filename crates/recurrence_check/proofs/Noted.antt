-- The states that a walk has come to, in a table by their keys.
use Rattle.std.proofs.Common.{◌≡◌, ◌≢◌, ℕ, ◌+◌, ◌-◌, ◌<◌, ◌≤◌, Some, None, refl, sym, ◌∙◌, ap, arith, subst, inl, inr, ◌↔◌, ◌⊎◌, false}
use Rattle.std.specs.Prelude.{Option}
use Rattle.std.specs.Ordering.{is_eq, nat_cmp, ordering_then}
use Rattle.std.specs.declared.cmp.Ordering.{Ordering}
use Rattle.std.specs.declared.cmp.Ordering.TheVariants.{Less, Equal, Greater}
use Rattle.std.proofs.lemmas.Bool.{cases_eq, cases_lt}
use Rattle.std.proofs.lemmas.Map.Lookups.{exact_pairs, exact_unsigned}
use Rattle.recurrence_check.specs.Course.{Course, state_after, IsRepeat}
use Rattle.recurrence_check.specs.Ends.{IsFirstRepeat}
use Rattle.recurrence_check.specs.Keys.{Meets}
use Rattle.recurrence_check.proofs.Shared.{state_after-start, state_after-next}
use Rattle.recurrence_check.proofs.Walking.{Walking, Walking-next, IsFirstRepeat-new}

-- keys in the order of a table
abbrev pub key_cmp : ℕ × ℕ → ℕ × ℕ → Ordering
key_cmp one other = ordering_then (nat_cmp one.0 other.0) (nat_cmp one.1 other.1)

-- two keys are equal or not
pair_equal : (one other : ℕ × ℕ) → one.0 ≡ other.0 → one.1 ≡ other.1 → one ≡ other
pair_equal one other first second =
    let left : ℕ → ℕ × ℕ = λ n. (n, one.1) in
    let right : ℕ → ℕ × ℕ = λ n. (other.0, n) in
    ap left first ∙ ap right second

pub key_cases : (one other : ℕ × ℕ) → (one ≡ other) ⊎ (one ≢ other)
key_cases one other = elim (cases_eq one.0 other.0) [
  | inl first ↦ elim (cases_eq one.1 other.1) [
    | inl second ↦ inl (pair_equal one other first second)
    | inr apart ↦ inr (λ same. apart (ap (λ (key : ℕ × ℕ). key.1) same))
  ]
  | inr apart ↦ inr (λ same. apart (ap (λ (key : ℕ × ℕ). key.0) same))
]

-- keys that differ do not compare as equal
not-equal : (order : Ordering) → order ≢ Equal → is_eq order ≡ false
not-equal Less apart = refl
not-equal Equal apart = absurd (apart refl)
not-equal Greater apart = refl

pub key-apart : (key other : ℕ × ℕ) → key ≢ other → is_eq (key_cmp key other) ≡ false
key-apart key other apart =
    not-equal (key_cmp key other) (λ same. apart (exact_pairs nat_cmp nat_cmp exact_unsigned exact_unsigned key other same))

-- nothing was found in an empty table
pub Meets-empty : (old new : ℕ × ℕ → Option ℕ) (key : Option (ℕ × ℕ)) (steps : ℕ) (before : Option ℕ)
    → ((q : ℕ × ℕ) → old q ≡ None) → Meets old new key steps before → before ≡ None
Meets-empty old new None steps before empty met = met.0
Meets-empty old new (Some key) steps before empty met = met.0 ∙ empty key

-- what was found stood under the key
Meets-at : (old new : ℕ × ℕ → Option ℕ) (key : Option (ℕ × ℕ)) (steps : ℕ) (before : Option ℕ) (q : ℕ × ℕ)
    → key ≡ Some q → Meets old new key steps before → before ≡ old q
Meets-at old new None steps before q key_is met = absurd (cc)
Meets-at old new (Some key) steps before q key_is met = let same : key ≡ q = cc in met.0 ∙ ap old same

Meets-found : (old new : ℕ × ℕ → Option ℕ) (key : Option (ℕ × ℕ)) (steps first : ℕ)
    → Meets old new key steps (Some first)
    → (q : ℕ × ℕ) × (key ≡ Some q) × (old q ≡ Some first)
Meets-found old new None steps first met = let none = met.0 in absurd (cc)
Meets-found old new (Some key) steps first met = (key, refl, sym met.0)

module _ {State : Type 0} (course : Course State) (key_of : State → Option (ℕ × ℕ)) where
  -- the state after k steps, which are less than n, has this key
  pub record StandsAt (key : ℕ × ℕ) (n k : ℕ) : Type 0 where
    pub before : k < n
    pub state : State
    pub state_is : state_after course k ≡ Some state
    pub key_is : key_of state ≡ Some key

  -- the table has the keys of the states after less than n steps, with these steps
  pub record Noted (table : ℕ × ℕ → Option ℕ) (n : ℕ) : Type 0 where
    pub some_state : (key : ℕ × ℕ) (k : ℕ) → table key ≡ Some k → StandsAt key n k
    pub each : (key : ℕ × ℕ) (k : ℕ) → StandsAt key n k → table key ≡ Some k

  -- a key that stands after less than n + 1 steps does so after less than n, or is the last one's
  StandsAt-cases : (key : ℕ × ℕ) (n k : ℕ) (next : State) → state_after course n ≡ Some next
      → StandsAt key (n + 1) k → StandsAt key n k ⊎ ((k ≡ n) × (key_of next ≡ Some key))
  StandsAt-cases key n k next next_is stands =
      elim (cases_lt k n) as (λ _. StandsAt key n k ⊎ ((k ≡ n) × (key_of next ≡ Some key))) [
        | inl earlier ↦ inl (record {
          before = earlier;
          state = stands.state;
          state_is = stands.state_is;
          key_is = stands.key_is;
        })
        | inr after ↦
            let last : k ≡ n = omega (arith, stands.before) in
            let there : state_after course n ≡ Some stands.state =
            subst (λ m. state_after course m ≡ Some stands.state) last stands.state_is in
            let same : stands.state ≡ next = cc in
            inr (last, subst (λ s. key_of s ≡ Some key) same stands.key_is)
      ]

  StandsAt-more : (key : ℕ × ℕ) (n k : ℕ) → StandsAt key n k → StandsAt key (n + 1) k
  StandsAt-more key n k stands = record {
    before = omega (arith, stands.before);
    state = stands.state;
    state_is = stands.state_is;
    key_is = stands.key_is;
  }

  -- a state without a key leaves the table as it is
  Noted-without : (old new : ℕ × ℕ → Option ℕ) (n : ℕ) (next : State) → Noted old n → state_after course n ≡ Some next
      → key_of next ≡ None → ((key : ℕ × ℕ) → new key ≡ old key) → Noted new (n + 1)
  Noted-without old new n next noted next_is without same = record {
    some_state = λ key k found. StandsAt-more key n k (noted.some_state key k (sym (same key) ∙ found));
    each = λ key k stands. elim (StandsAt-cases key n k next next_is stands) [
      | inl before ↦ same key ∙ noted.each key k before
      | inr last ↦ let none = last.1 in absurd (cc)
    ];
  }

  -- a new key is put down
  Noted-with : (old new : ℕ × ℕ → Option ℕ) (n : ℕ) (next : State) (key : ℕ × ℕ) → Noted old n
      → state_after course n ≡ Some next → key_of next ≡ Some key → old key ≡ None → new key ≡ Some n
      → ((other : ℕ × ℕ) → key ≢ other → new other ≡ old other) → Noted new (n + 1)
  Noted-with old new n next key noted next_is key_is absent here others = record {
    some_state = λ other k found. elim (key_cases key other) [
      | inl same ↦
          let there : new other ≡ Some n = subst (λ q. new q ≡ Some n) same here in
          let last : k ≡ n = cc in
          record {
            before = omega arith;
            state = next;
            state_is = subst (λ m. state_after course m ≡ Some next) (sym last) next_is;
            key_is = key_is ∙ ap (λ q. Some q) same;
          }
      | inr apart ↦ StandsAt-more other n k (noted.some_state other k (sym (others other apart) ∙ found))
    ];
    each = λ other k stands. elim (StandsAt-cases other n k next next_is stands) [
      | inl before ↦
          let there : old other ≡ Some k = noted.each other k before in
          others other (λ same.
          let gone : old other ≡ None = subst (λ q. old q ≡ None) same absent in
          absurd (cc)) ∙ there
      | inr last ↦
          let key_last = last.1 in
          let same : key ≡ other = cc in
          subst (λ q. new q ≡ Some k) same (here ∙ ap (λ m. Some m) (sym last.0))
    ];
  }

  -- a table in which the same stands
  pub Noted-same : (old new : ℕ × ℕ → Option ℕ) (n : ℕ) → Noted old n → ((q : ℕ × ℕ) → new q ≡ old q) → Noted new n
  Noted-same old new n noted same = record {
    some_state = λ key k found. noted.some_state key k (sym (same key) ∙ found);
    each = λ key k stands. same key ∙ noted.each key k stands;
  }

  Noted-next : (old new : ℕ × ℕ → Option ℕ) (n : ℕ) (next : State) (key : Option (ℕ × ℕ)) → key ≡ key_of next
      → Noted old n → state_after course n ≡ Some next → Meets old new key n None → Noted new (n + 1)
  Noted-next old new n next None key_is noted next_is met =
      Noted-without old new n next noted next_is (sym key_is) met.1
  Noted-next old new n next (Some key) key_is noted next_is met =
      let added = met.1 refl in
      Noted-with old new n next key noted next_is (sym key_is) (sym met.0) added.0 added.1

  pub Noted-start : (old new : ℕ × ℕ → Option ℕ) (start : State) (key : Option (ℕ × ℕ)) (before : Option ℕ)
      → start ≡ course.start → key ≡ key_of start → ((q : ℕ × ℕ) → old q ≡ None) → Meets old new key 0 before
      → Noted new 1
  Noted-start old new start key before start_is key_is empty met =
      let none : before ≡ None = Meets-empty old new key 0 before empty met in
      let noted : Noted old 0 = record {
        some_state = λ q k found. let nothing = empty q in absurd (cc);
        each = λ q k stands. absurd (omega (arith, stands.before));
      } in
      Noted-next old new 0 start key key_is noted (state_after-start course ∙ ap (λ s. Some s) (sym start_is))
      (subst (λ found. Meets old new key 0 found) none met)

  -- which states are the same is told by their keys, of good states up to 100,000 steps
  abbrev pub TellsSame : (State → Type 0) → (State → ℕ) → Type 0
  TellsSame is_good number = (one other : State) → is_good one → is_good other → number one ≤ 100000
      → number other ≤ 100000
      → course.alike one other ↔ ((key : ℕ × ℕ) × (key_of one ≡ Some key) × (key_of other ≡ Some key))

  module _ (is_good : State → Type 0) (number : State → ℕ) where
    -- what a step of the search has: the walk is at a state without a repeat, whose key is noted like those before, and
    -- goes on to a state whose key was looked up
    pub record Meeting (n : ℕ) (here next : State) (old new : ℕ × ℕ → Option ℕ) (key : Option (ℕ × ℕ))
        (before : Option ℕ) : Type 0 where
      pub tells : TellsSame is_good number
      pub below : n < 100000
      pub walking : Walking course is_good number n here
      pub noted : Noted old (n + 1)
      pub goes_on : Some next ≡ course.next here
      pub good : is_good next
      pub number_is : number next ≡ number here + 1
      pub key_is : key ≡ key_of next
      pub met : Meets old new key (n + 1) before

    module _ (n : ℕ) (here next : State) (old new : ℕ × ℕ → Option ℕ) (key : Option (ℕ × ℕ))
        (before : Option ℕ) (at : Meeting n here next old new key before) where
      next_is : state_after course (n + 1) ≡ Some next
      next_is = state_after-next course n here at.walking.here_is ∙ sym at.goes_on

      number_next : number next ≤ 100000
      number_next = omega (arith, at.number_is, at.walking.number_is, at.below)

      -- where the walk repeats, the table has the steps under the key
      looked_up : (one : ℕ) → IsRepeat course one (n + 1) → (q : ℕ × ℕ) × (key ≡ Some q) × (old q ≡ Some one)
      looked_up one again =
          let order : one < n + 1 = again.order in
          let good = at.walking.all_good one again.before (omega arith) again.before_is in
          let there = again.again_is in
          let last = next_is in
          let same : again.again ≡ next = cc in
          let alike : course.alike again.before next = subst (λ s. course.alike again.before s) same again.same in
          let below : number again.before ≤ 100000 = omega (arith, good.1, at.below) in
          let keys = (at.tells again.before next good.0 at.good below number_next).0 alike in (
            keys.0,
            at.key_is ∙ keys.2,
            at.noted.each keys.0 one (record {
              before = order;
              state = again.before;
              state_is = again.before_is;
              key_is = keys.1;
            }),
          )

      -- a key that was not there ends no repeat
      none_again : before ≡ None → (one : ℕ) → ¬ IsRepeat course one (n + 1)
      none_again absent one again =
          let found = looked_up one again in
          let here = Meets-at old new key (n + 1) before found.0 found.1 at.met in
          let there = found.2 in
          absurd (cc)

      -- a key that was there ends one that begins with the state whose steps stood under it
      pub Meeting-found : (first : ℕ) → before ≡ Some first → IsRepeat course first (n + 1)
      Meeting-found first before_is =
          let met = subst (λ b. Meets old new key (n + 1) b) before_is at.met in
          let found = Meets-found old new key (n + 1) first met in
          let stands = at.noted.some_state found.0 first found.2 in
          let steps : first < n + 1 = stands.before in
          let good = at.walking.all_good first stands.state (omega arith) stands.state_is in
          record {
            order = steps;
            before = stands.state;
            again = next;
            before_is = stands.state_is;
            again_is = next_is;
            same = (at.tells stands.state next good.0 at.good (omega (arith, good.1, at.below)) number_next).1
                (found.0, stands.key_is, sym at.key_is ∙ found.1);
          }

      first_again : (first one : ℕ) → before ≡ Some first → one < first → ¬ IsRepeat course one (n + 1)
      first_again first one before_is sooner again =
          let found = looked_up one again in
          let here = Meets-at old new key (n + 1) before found.0 found.1 at.met in
          let there = found.2 in
          let same : one ≡ first = cc in
          absurd (omega arith)

      pub Meeting-first : (first horizon : ℕ) → n < horizon → before ≡ Some first
          → IsFirstRepeat course horizon (record { first = first; length = n + 1 - first })
      Meeting-first first horizon below before_is =
          IsFirstRepeat-new course n first horizon below at.walking.new (Meeting-found first before_is)
          (λ one sooner. first_again first one before_is sooner)

      pub Meeting-next : before ≡ None → Walking course is_good number (n + 1) next
      Meeting-next absent =
          Walking-next course is_good number n here next at.walking (sym at.goes_on) at.good at.number_is
          (none_again absent)

      pub Meeting-noted : before ≡ None → Noted new (n + 1 + 1)
      Meeting-noted absent =
          Noted-next old new (n + 1) next key at.key_is at.noted next_is
          (subst (λ b. Meets old new key (n + 1) b) absent at.met)
