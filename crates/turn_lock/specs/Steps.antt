-- What each step on the word tells the pass that makes it.
use Rattle.std.specs.Prelude.{◌≡◌, ◌≢◌, ℕ, ◌+◌, ◌*◌, ◌%◌, ◌≤◌, ◌==◌}
use Rattle.std.specs.Prelude.{List, [], ◌∷◌, length, MatchBool, Option, Some, None}
use mathlib.Core.List.{IsPrefix}
use Rattle.atomic_table.specs.Table.{Me, Step, rest}
use Rattle.turn_lock.specs.History.{own}
use Rattle.turn_lock.specs.Passes.{Facts, granted, refused, committed, given_back}
use Rattle.turn_lock.specs.declared.view.View.{View}

module _ {T E : Type 0} (entries : T → List E) where
  -- what the value that is put back stands for
  abbrev pub stood_in : Option T → List E
  stood_in (Some value) = entries value
  stood_in None = []

  abbrev pub stood : List (ℕ × Option T) → List E
  stood [] = []
  stood (x ∷ xs) = stood_in x.1

module _ {T E F : Type 0} (entries : T → List E) (fixed : T → F) (number : E → ℕ) where
  abbrev Sat : Type 0
  Sat = Me (Option T) (View E F)

  -- nothing changes, and the word is at least twice the length of what was seen
  abbrev pub Looked : Step (Option T) → Sat → ℕ → Sat → Type 0
  Looked st m word m' = (m' ≡ m) × (2 * length m.0.seen ≤ word) × Facts number m.0

  -- the value found has the fixed part that the pass shows, and stands for a list that begins with what the pass has
  -- seen and has its entries
  pub record IsGranted (m : Sat) (m' : Sat) : Type 0 where
    pub value : T
    pub now : m' ≡ (granted (entries value) m.0, (0, Some value) ∷ m.1)
    pub keeps : m.0.fixed ≡ Some (fixed value)
    pub begins : IsPrefix m.0.seen (entries value)
    pub own_are : own number m.0.number (entries value) ≡ m.0.mine
    pub facts : Facts number (granted (entries value) m.0)

  pub record IsRefused (m : Sat) (word : ℕ) (m' : Sat) : Type 0 where
    pub now : m' ≡ (refused word m.0, m.1)
    pub least : 2 * length m.0.seen + 1 ≤ word
    pub others : m.0.number ≡ 0 → m.0.out ≢ 0
    pub facts : Facts number (refused word m.0)

  abbrev pub Tried : Step (Option T) → Sat → ℕ → Sat → Type 0
  Tried st m word m' = MatchBool (word % 2 == 1) (IsRefused m word m') (IsGranted m m')

  -- the slot goes home, and the turn is let go with an entry more
  abbrev pub Committed : Step (Option T) → Sat → ℕ → Sat → Type 0
  Committed st m word m' = (m' ≡ (committed (stood entries m.1) m.0, rest m.1)) × Facts number m'.0

  -- the slot goes home, and the turn is let go with nothing added
  abbrev pub GivenBack : Step (Option T) → Sat → ℕ → Sat → Type 0
  GivenBack st m word m' = (m' ≡ (given_back (stood entries m.1) m.0, rest m.1)) × Facts number m'.0
