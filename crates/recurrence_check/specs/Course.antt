-- The states of a walk, and which of them are the same as earlier ones.
use Rattle.std.specs.Prelude.{◌≡◌, ℕ, zero, suc, ◌<◌, ◌≤◌, List, Option, Some, None}
use Rattle.std.specs.List.{slice_get}
use Rattle.std.specs.Option.{option_and_then}

-- a walk: the state in which it begins, the state behind each state, if the walk goes on there, and which states
-- are the same
pub record Course (State : Type 0) : Type 1 where
  pub start : State
  pub next : State → Option State
  pub alike : State → State → Type 0

-- the state after this many steps; none where the walk breaks before
unfoldable pub state_after : {State : Type 0} → Course State → ℕ → Option State
state_after course zero = Some course.start
state_after course (suc n) = option_and_then course.next (state_after course n)

-- what stands behind two states is the same: nothing behind both, or states that are the same
abbrev pub GoOnAlike : {State : Type 0} → (State → State → Type 0) → Option State → Option State → Type 0
GoOnAlike alike None None = Unit {0}
GoOnAlike alike None (Some other) = ⊥
GoOnAlike alike (Some one) None = ⊥
GoOnAlike alike (Some one) (Some other) = alike one other

-- after `later` steps the walk is in a state that is the same as the one after `earlier` steps
pub record IsRepeat {State : Type 0} (course : Course State) (earlier later : ℕ) : Type 0 where
  pub order : earlier < later
  pub before : State
  pub again : State
  pub before_is : state_after course earlier ≡ Some before
  pub again_is : state_after course later ≡ Some again
  pub same : course.alike before again

-- a repeat such that no repeat ends sooner, and none that ends with it begins earlier
pub record IsLeastRepeat {State : Type 0} (course : Course State) (earlier later : ℕ) : Type 0 where
  pub repeats : IsRepeat course earlier later
  pub soonest : (one other : ℕ) → IsRepeat course one other → later ≤ other
  pub earliest : (one : ℕ) → IsRepeat course one later → earlier ≤ one

-- no two of the states after 0 to n steps are the same
abbrev pub HasNoRepeat : {State : Type 0} → Course State → ℕ → Type 0
HasNoRepeat course n = (one other : ℕ) → other ≤ n → ¬ IsRepeat course one other

-- the walk comes to a state after n steps, without a repeat, and does not go on from there
pub record Breaks {State : Type 0} (course : Course State) (n : ℕ) : Type 0 where
  pub last : State
  pub last_is : state_after course n ≡ Some last
  pub ends : course.next last ≡ None
  pub new : HasNoRepeat course n

-- the walk comes to a state after n steps, without a repeat
pub record StaysNew {State : Type 0} (course : Course State) (n : ℕ) : Type 0 where
  pub last : State
  pub last_is : state_after course n ≡ Some last
  pub new : HasNoRepeat course n

-- none of the first n of these states is the same as the state
abbrev pub NoneSame : {State : Type 0} → Course State → List State → ℕ → State → Type 0
NoneSame {State} course states n state =
    (k : ℕ) (one : State) → k < n → slice_get states k ≡ Some one → ¬ course.alike one state

-- the first of these states that is the same as the state stands at the place
pub record IsFirstSame {State : Type 0} (course : Course State) (states : List State) (state : State) (place : ℕ)
    : Type 0 where
  pub one : State
  pub stands : slice_get states place ≡ Some one
  pub same : course.alike one state
  pub first : NoneSame course states place state
