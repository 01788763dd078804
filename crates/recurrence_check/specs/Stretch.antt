-- States of a walk that are passed at once.
use Rattle.std.specs.Prelude.{◌≡◌, ℕ, ◌+◌, ◌<◌, Option, Some, None}
use Rattle.recurrence_check.specs.Course.{Course}

-- the key with the same mark whose place is so much further
abbrev pub further : Option (ℕ × ℕ) → ℕ → Option (ℕ × ℕ)
further None k = None
further (Some key) k = Some (key.0, key.1 + k)

-- a walk goes by so many steps from one state to another. All states behind the first one are good, and their numbers
-- are one more each. Their keys have one mark and places that are one more each, or none of them has a key
pub record IsStretch {State : Type 0} (course : Course State) (is_good : State → Type 0) (number : State → ℕ)
    (key_of : State → Option (ℕ × ℕ)) (here there : State) (steps : ℕ) (key : Option (ℕ × ℕ)) : Type 0 where
  pub state : ℕ → State
  pub begins : state 0 ≡ here
  pub ends : state steps ≡ there
  pub goes_on : (k : ℕ) → k < steps → course.next (state k) ≡ Some (state (k + 1))
  pub good : (k : ℕ) → k < steps → is_good (state (k + 1))
  pub number_is : (k : ℕ) → k < steps → number (state (k + 1)) ≡ number (state k) + 1
  pub key_is : (k : ℕ) → k < steps → key_of (state (k + 1)) ≡ further key k
