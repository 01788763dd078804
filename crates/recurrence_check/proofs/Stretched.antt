-- A stretch of states whose keys are put down one after the other.
use Rattle.std.proofs.Common.{◌≡◌, ℕ, zero, suc, ◌+◌, ◌-◌, ◌<◌, ◌≤◌, Some, None, refl, sym, arith, subst}
use Rattle.std.specs.Prelude.{Option}
use Rattle.recurrence_check.specs.Course.{Course}
use Rattle.recurrence_check.specs.Ends.{IsFirstRepeat}
use Rattle.recurrence_check.specs.Keys.{Meets, MeetsAll, MeetsRun}
use Rattle.recurrence_check.specs.declared.by_keys.Met.{Met}
use Rattle.recurrence_check.specs.Stretch.{IsStretch, further}
use Rattle.recurrence_check.proofs.Noted.{Noted, Noted-same, Meeting, Meeting-found, Meeting-first, Meeting-next, Meeting-noted, TellsSame}
use Rattle.recurrence_check.proofs.Walking.{Walking}

-- no key is put down, and none is found
pub run-none : (table : ℕ × ℕ → Option ℕ) (steps count : ℕ) → MeetsRun table table None steps count
run-none table steps zero = λ q. refl
run-none table steps (suc n) = (table, run-none table steps n, (refl, λ q. refl))

-- one more key is put down
pub run-next : (old mid new : ℕ × ℕ → Option ℕ) (key : Option (ℕ × ℕ)) (steps n : ℕ) → MeetsRun old mid key steps n
    → Meets mid new (further key n) (steps + n) None → MeetsRun old new key steps (n + 1)
run-next old mid new key steps n run met =
    let up : suc n ≡ n + 1 = omega arith in
    let more : MeetsRun old new key steps (suc n) = (mid, run, met) in
    subst (λ k. MeetsRun old new key steps k) up more

module _ {State : Type 0} (course : Course State) (key_of : State → Option (ℕ × ℕ)) (is_good : State → Type 0)
    (number : State → ℕ) where
  -- the walk is at a state without a repeat, whose key is noted like those before, and a stretch of states stands behind
  -- it
  pub record Stretching (n : ℕ) (here there : State) (steps : ℕ) (key : Option (ℕ × ℕ)) (old : ℕ × ℕ → Option ℕ)
      : Type 0 where
    pub tells : TellsSame course key_of is_good number
    pub below : n + steps ≤ 100000
    pub walking : Walking course is_good number n here
    pub noted : Noted course key_of old (n + 1)
    pub stretch : IsStretch course is_good number key_of here there steps key

  -- so it is where the key of the state in front of the stretch was just put down
  pub stretching-behind : (n : ℕ) (here next place there : State) (old mid : ℕ × ℕ → Option ℕ) (known : Option (ℕ × ℕ))
      (before : Option ℕ) (steps : ℕ) (key : Option (ℕ × ℕ)) → Meeting course key_of is_good number n here next old mid known before
      → before ≡ None → next ≡ place → n + 1 + steps ≤ 100000 → IsStretch course is_good number key_of place there steps key
      → Stretching (n + 1) place there steps key mid
  stretching-behind n here next place there old mid known before steps key at none is below stretch = record {
    tells = at.tells;
    below = below;
    walking = subst (λ s. Walking course is_good number (n + 1) s) is (Meeting-next _ _ _ _ _ _ _ _ _ _ _ at none);
    noted = Meeting-noted _ _ _ _ _ _ _ _ _ _ _ at none;
    stretch = stretch;
  }

  module _ (n : ℕ) (here there : State) (steps : ℕ) (key : Option (ℕ × ℕ)) (old : ℕ × ℕ → Option ℕ)
      (at : Stretching n here there steps key old) where
    abbrev pub stretch : IsStretch course is_good number key_of here there steps key
    stretch = at.stretch

    meeting : (k : ℕ) (mid new : ℕ × ℕ → Option ℕ) (before : Option ℕ) → k < steps
        → Walking course is_good number (n + k) (stretch.state k) → Noted course key_of mid (n + k + 1)
        → Meets mid new (further key k) (n + 1 + k) before
        → Meeting course key_of is_good number (n + k) (stretch.state k) (stretch.state (k + 1)) mid new (further key k) before
    meeting k mid new before within walking noted met =
        let on : n + 1 + k ≡ n + k + 1 = omega arith in
        record {
          tells = at.tells;
          below = omega (arith, at.below);
          walking = walking;
          noted = noted;
          goes_on = sym (stretch.goes_on k within);
          good = stretch.good k within;
          number_is = stretch.number_is k within;
          key_is = sym (stretch.key_is k within);
          met = subst (λ m. Meets mid new (further key k) m before) on met;
        }

    -- so many states of the stretch were passed
    pub passed : (k : ℕ) (new : ℕ × ℕ → Option ℕ) → k ≤ steps → MeetsRun old new key (n + 1) k
        → Walking course is_good number (n + k) (stretch.state k) × Noted course key_of new (n + k + 1)
    passed zero new within run =
        let none : n ≡ n + 0 = omega arith in (
          subst (λ m. Walking course is_good number m (stretch.state 0)) none
              (subst (λ s. Walking course is_good number n s) (sym stretch.begins) at.walking),
          subst (λ m. Noted course key_of new (m + 1)) none (Noted-same course key_of old new (n + 1) at.noted run),
        )
    passed (suc k) new within run =
        let before = passed k run.0 (omega arith) run.1 in
        let at_next = meeting k run.0 new None (omega arith) before.0 before.1 run.2 in
        let up : k + 1 ≡ suc k = omega arith in
        let on : n + k + 1 ≡ n + suc k = omega arith in (
          subst (λ m. Walking course is_good number m (stretch.state (suc k))) on
              (subst (λ m. Walking course is_good number (n + k + 1) (stretch.state m)) up
              (Meeting-next _ _ _ _ _ _ _ _ _ _ _ at_next refl)),
          subst (λ m. Noted course key_of new (m + 1)) on (Meeting-noted _ _ _ _ _ _ _ _ _ _ _ at_next refl),
        )

    module _ (k first : ℕ) (mid new : ℕ × ℕ → Option ℕ) (within : k < steps) (run : MeetsRun old mid key (n + 1) k)
        (met : Meets mid new (further key k) (n + 1 + k) (Some first)) where
      at_last : Meeting course key_of is_good number (n + k) (stretch.state k) (stretch.state (k + 1)) mid new (further key k) (Some first)
      at_last =
          let before = passed k mid (omega arith) run in
          meeting k mid new (Some first) within before.0 before.1 met

      -- where a state of the stretch has an earlier key, the walk has its first repeat
      pub stretch-order : first < n + 1 + k
      stretch-order =
          let repeats = Meeting-found _ _ _ _ _ _ _ _ _ _ _ at_last first refl in
          let order : first < n + k + 1 = repeats.order in
          omega arith

      pub stretch-first : (horizon : ℕ) → n + steps ≤ horizon
          → IsFirstRepeat course horizon (record { first = first; length = n + 1 + k - first })
      stretch-first horizon below =
          let on : n + k + 1 ≡ n + 1 + k = omega arith in
          subst (λ m. IsFirstRepeat course horizon (record { first = first; length = m - first })) on
          (Meeting-first _ _ _ _ _ _ _ _ _ _ _ at_last first horizon (omega arith) refl)

    -- what is answered where a state of the stretch has an earlier key
    module _ (new : ℕ × ℕ → Option ℕ) (found : Option Met) (all : MeetsAll old new key (n + 1) steps found) where
      pub met-order : (met : Met) → found ≡ Some met → met.first < n + 1 + met.behind
      met-order met is =
          let there = subst (λ f. MeetsAll old new key (n + 1) steps f) is all in
          stretch-order met.behind met.first there.1 new there.0 there.2 there.3

      pub met-first : (met : Met) (horizon : ℕ) → found ≡ Some met → n + steps ≤ horizon
          → IsFirstRepeat course horizon (record { first = met.first; length = n + 1 + met.behind - met.first })
      met-first met horizon is below =
          let there = subst (λ f. MeetsAll old new key (n + 1) steps f) is all in
          stretch-first met.behind met.first there.1 new there.0 there.2 there.3 horizon below

      -- and else the walk is at the end of the stretch
      pub met-none : found ≡ None → Walking course is_good number (n + steps) there × Noted course key_of new (n + steps + 1)
      met-none is =
          let run = subst (λ f. MeetsAll old new key (n + 1) steps f) is all in
          let ended = passed steps new (omega arith) run in
          (subst (λ s. Walking course is_good number (n + steps) s) stretch.ends ended.0, ended.1)
