-- What is asked of an instance that may be sent in a cycle.
use Rattle.std.specs.Prelude.{◌≡◌, ℕ, ◌≤◌}
use Rattle.requirement_table.specs.declared.entries.Placed.{Placed}
use Rattle.requirement_table.specs.Instance.{Instance, MaySend, release_of}
use Rattle.sporadic_poll.specs.declared.current.Current.{Current}

-- the cycle of its release, and the length of its entry
abbrev pub current_of : Instance → Current
current_of i = record { release = release_of i.placed i.number; length = i.placed.entry.length }

-- this is asked of an instance of an entry of the slot, which may be sent in the cycle
pub record IsCurrentBy (slot c : ℕ) (p : Placed) (current : Current) : Type 0 where
  pub own : p.entry.slot ≡ slot
  pub number : ℕ
  pub sends : MaySend p number c
  pub is : current ≡ current_of (record { placed = p; number = number })
  pub few : current.length ≤ 8
