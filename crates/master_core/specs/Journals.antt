-- What is kept of a history, and what contracts see of it.
use Rattle.std.specs.Prelude.{◌≡◌, ℕ, ◌+◌, ◌^◌, ◌<◌, ◌≤◌, Bool, true, List, [], ◌∷◌, ◌++◌, length}
use Rattle.requirement_table.specs.declared.entries.Placed.{Placed}
use Rattle.admission_rules.specs.declared.Rules.{Rules}
use Rattle.master_core.specs.declared.event.Event.{Event}

-- what contracts see of a journal: all events, the number of events that it has room for, and whether all are kept
pub record JournalView : Type 0 where
  pub history : List Event
  pub spare : ℕ
  pub keeps : Bool

-- what contracts see of a master with a journal: its rules, its whole history, the placed entries that it keeps, the
-- number of events that it has room for, and whether all events are kept
pub record LeanView : Type 0 where
  pub rules : Rules
  pub history : List Event
  pub placed : List Placed
  pub spare : ℕ
  pub keeps : Bool

-- the event is the last one of the history
abbrev pub IsLast : List Event → Event → Type 0
IsLast history event = (before : List Event) (last : Event) → history ≡ before ++ last ∷ [] → event ≡ last

-- these are the last events of the history: one at least, where there is any, and all where all are kept
pub record AreRecent (keeps : Bool) (history recent : List Event) : Type 0 where
  pub before : List Event
  pub is : history ≡ before ++ recent
  pub all : keeps ≡ true → before ≡ []
  pub last : 1 ≤ length history → 1 ≤ length recent

-- the room of a journal: of so many events, its vector holds some and has so much room in all, and so many more events
-- are spared
pub record HasPlace (keeps : Bool) (events held room spare : ℕ) : Type 0 where
  pub spared : keeps ≡ true → held + spare ≤ room
  pub one : 1 ≤ spare → 1 ≤ room
  pub few : events + spare < 2 ^ 61
