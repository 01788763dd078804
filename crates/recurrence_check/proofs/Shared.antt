-- The states of a walk one after the other.
use Rattle.std.proofs.Common.{◌≡◌, ℕ, zero, suc, ◌+◌, ◌-◌, ◌≤◌, Some, None, ◌∙◌, refl, arith, add-one, add-zero, add-suc, inl, inr}
use Rattle.std.proofs.lemmas.Bool.{cases_lt}
use Rattle.std.specs.Prelude.{Option}
use Rattle.recurrence_check.specs.Course.{Course, state_after, Breaks}

module _ {State : Type 0} (course : Course State) where
  -- no step was taken yet
  pub state_after-start : state_after course 0 ≡ Some course.start
  unfolding state_after
  state_after-start = refl

  -- one more step
  pub state_after-next : (n : ℕ) (here : State) → state_after course n ≡ Some here
      → state_after course (n + 1) ≡ course.next here
  unfolding state_after
  state_after-next n here here_is = rw (add-one, here_is)

  -- no state behind the end of the walk
  none_after : (n more : ℕ) → state_after course n ≡ None → state_after course (n + more) ≡ None
  unfolding state_after
  none_after n zero ended = rw add-zero ended
  none_after n (suc more) ended = rw (add-suc, none_after n more ended)

  pub none_behind : (n later : ℕ) → state_after course n ≡ None → n ≤ later → state_after course later ≡ None
  none_behind n later ended order =
      let sum : n + (later - n) ≡ later = omega arith in
      rw sum at (none_after n (later - n) ended)

  -- each state before one that is there is there
  pub state_before : (n later : ℕ) (there : State) → state_after course later ≡ Some there → n ≤ later
      → (state : State) × (state_after course n ≡ Some state)
  state_before n later there there_is order = by_case (state_after course n) refl where
    by_case : (found : Option State) → state_after course n ≡ found
        → (state : State) × (state_after course n ≡ Some state)
    by_case None ended = let behind = none_behind n later ended order in absurd (cc)
    by_case (Some state) found = (state, found)

  -- a walk that breaks has no state behind the last one
  pub Breaks-last : (at n : ℕ) (state : State) → Breaks course at → state_after course n ≡ Some state → n ≤ at
  Breaks-last at n state breaks there = elim (cases_lt at n) [
    | inl after ↦
        let ended : state_after course (at + 1) ≡ None = state_after-next at breaks.last breaks.last_is ∙ breaks.ends in
        let behind = none_behind (at + 1) n ended (omega arith) in
        absurd (cc)
    | inr within ↦ within
  ]
