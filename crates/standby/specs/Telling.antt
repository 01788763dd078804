-- What it means that a standby followed what it was told, one thing after the other, and where it stopped.
use Rattle.std.specs.Prelude.{◌≡◌, ℕ, ◌+◌, List, ◌∷◌, ◌++◌, Some, length, slice_get, take}
use Rattle.master_core.specs.declared.event.Event.{Event}
use Rattle.standby.specs.declared.follow_fault.FollowFault.{FollowFault}
use Rattle.standby.specs.declared.told.Told.{Told}
use Rattle.standby.specs.declared.told.Told.TheVariants.{Change, Trigger}
use Rattle.standby.specs.Following.{IsChangeFault, IsChanged, IsOpened, IsTriggerFault, StandbyView}

-- one thing was followed: the change was taken, or the cycle was opened
abbrev pub FollowsOne : StandbyView → Told → List Event → Type 0
FollowsOne old (Change caller change) new = IsChanged old caller change new
FollowsOne old (Trigger frames) new = IsOpened old frames new

-- the fault that is due where one thing is told, or there is no memory
abbrev pub IsFollowFault : StandbyView → Told → FollowFault → Type 0
IsFollowFault old (Change caller change) fault = IsChangeFault old change fault
IsFollowFault old (Trigger frames) fault = IsTriggerFault old frames fault

-- all things of the list were followed: behind the history stands one event for each, in their order, which follows that
-- thing behind the events before it
pub record FollowsAll (old : StandbyView) (told : List Told) (new : List Event) : Type 0 where
  pub events : List Event
  pub history : new ≡ old.history ++ events
  pub one_each : length events ≡ length told
  pub each : (place : ℕ) (one : Told) → slice_get told place ≡ Some one
      → FollowsOne (record { rules = old.rules; history = old.history ++ take place events }) one
      (old.history ++ take (place + 1) events)

-- the things before one of them were followed, and at that one the fault is due
pub record StopsAt (old : StandbyView) (told : List Told) (new : List Event) (fault : FollowFault) : Type 0 where
  pub before : List Told
  pub one : Told
  pub rest : List Told
  pub parts : told ≡ before ++ one ∷ rest
  pub followed : FollowsAll old before new
  pub due : IsFollowFault (record { rules = old.rules; history = new }) one fault
