-- A walk that has come to a state without a repeat, and what is then to be answered.
use Rattle.std.proofs.Common.{◌≡◌, ℕ, ◌+◌, ◌-◌, ◌<◌, ◌≤◌, Some, None, sym, ◌∙◌, ap, arith, subst, inl, inr}
use Rattle.std.proofs.lemmas.Bool.{cases_lt}
use Rattle.recurrence_check.specs.Course.{Course, state_after, HasNoRepeat, IsRepeat, IsLeastRepeat, Breaks, StaysNew}
use Rattle.recurrence_check.specs.Ends.{IsFirstRepeat}
use Rattle.recurrence_check.proofs.Shared.{state_after-start, state_after-next}

module _ {State : Type 0} (course : Course State) where
  -- nothing repeats where no step was taken
  HasNoRepeat-start : HasNoRepeat course 0
  HasNoRepeat-start one other within again = let order : one < other = again.order in absurd (omega arith)

  -- nothing repeats up to the next state, where that is no repeat
  HasNoRepeat-next : (n : ℕ) → HasNoRepeat course n → ((one : ℕ) → ¬ IsRepeat course one (n + 1))
      → HasNoRepeat course (n + 1)
  HasNoRepeat-next n before none one other within again = elim (cases_lt n other) [
    | inl after ↦
        let here : other ≡ n + 1 = omega arith in
        none one (subst (λ later. IsRepeat course one later) here again)
    | inr within_n ↦ before one other within_n again
  ]

  -- a repeat behind no other is the least one, where it is the first one that ends there
  pub IsLeastRepeat-new : (n earlier : ℕ) → HasNoRepeat course n → IsRepeat course earlier (n + 1)
      → ((one : ℕ) → one < earlier → ¬ IsRepeat course one (n + 1)) → IsLeastRepeat course earlier (n + 1)
  IsLeastRepeat-new n earlier before repeats first = record {
    repeats = repeats;
    soonest = λ one other again. elim (cases_lt n other) [
      | inl after ↦ let order : n < other = after in omega arith
      | inr within ↦ absurd (before one other within again)
    ];
    earliest = λ one again. elim (cases_lt one earlier) [
      | inl sooner ↦ absurd (first one sooner again)
      | inr later ↦ later
    ];
  }

  -- and it is what is to be answered
  pub IsFirstRepeat-new : (n earlier horizon : ℕ) → n < horizon → HasNoRepeat course n → IsRepeat course earlier (n + 1)
      → ((one : ℕ) → one < earlier → ¬ IsRepeat course one (n + 1))
      → IsFirstRepeat course horizon (record { first = earlier; length = n + 1 - earlier })
  IsFirstRepeat-new n earlier horizon below before repeats first =
      let order : earlier < n + 1 = repeats.order in
      let sum : n + 1 ≡ earlier + (n + 1 - earlier) = omega arith in
      let least = IsLeastRepeat-new n earlier before repeats first in
      (omega arith, subst (λ later. IsLeastRepeat course earlier later) sum least)

  module _ (is_good : State → Type 0) (number : State → ℕ) where
    -- the walk has come to the state after n steps; all states are good, under their numbers, and none repeats
    pub record Walking (n : ℕ) (here : State) : Type 0 where
      pub here_is : state_after course n ≡ Some here
      pub good : is_good here
      pub number_is : number here ≡ n
      pub all_good : (k : ℕ) (state : State) → k ≤ n → state_after course k ≡ Some state
          → is_good state × (number state ≡ k)
      pub new : HasNoRepeat course n

    pub Walking-start : (here : State) → here ≡ course.start → is_good here → number here ≡ 0 → Walking 0 here
    Walking-start here start good number_is = record {
      here_is = state_after-start course ∙ ap (λ state. Some state) (sym start);
      good = good;
      number_is = number_is;
      all_good = λ k state within state_is.
          let none : k ≡ 0 = omega arith in
          let at_start : state_after course 0 ≡ Some state =
          subst (λ n. state_after course n ≡ Some state) none state_is in
          let same : here ≡ state = cc (start, at_start, state_after-start course) in
          (subst is_good same good, subst (λ s. number s ≡ k) same (number_is ∙ sym none));
      new = HasNoRepeat-start;
    }

    pub Walking-next : (n : ℕ) (here next : State) → Walking n here → course.next here ≡ Some next → is_good next
        → number next ≡ number here + 1 → ((one : ℕ) → ¬ IsRepeat course one (n + 1)) → Walking (n + 1) next
    Walking-next n here next walking next_is good number_is none =
        let here_is : state_after course (n + 1) ≡ Some next =
        state_after-next course n here walking.here_is ∙ next_is in
        let number_next : number next ≡ n + 1 = number_is ∙ ap (λ k. k + 1) walking.number_is in
        record {
          here_is = here_is;
          good = good;
          number_is = number_next;
          all_good = λ k state within state_is. elim (cases_lt n k) [
            | inl after ↦
                let last : k ≡ n + 1 = omega arith in
                let there : state_after course (n + 1) ≡ Some state =
                subst (λ m. state_after course m ≡ Some state) last state_is in
                let same : next ≡ state = cc (here_is, there) in
                (subst is_good same good, subst (λ s. number s ≡ k) same (number_next ∙ sym last))
            | inr within_n ↦ walking.all_good k state within_n state_is
          ];
          new = HasNoRepeat-next n walking.new none;
        }

    pub Walking-breaks : (n : ℕ) (here : State) → Walking n here → None ≡ course.next here → Breaks course n
    Walking-breaks n here walking ends =
        record { last = here; last_is = walking.here_is; ends = sym ends; new = walking.new }

    pub Walking-stays : (n horizon : ℕ) (here : State) → Walking n here → n ≡ horizon → StaysNew course horizon
    Walking-stays n horizon here walking all =
        subst (λ m. StaysNew course m) all (record { last = here; last_is = walking.here_is; new = walking.new })
