-- Which slots are flagged in which cycles, and that a table is kept by that: each instance is flagged once, in its
-- time.
use Rattle.std.specs.Prelude.{◌≡◌, ℕ, ◌+◌, ◌<◌, ◌≤◌, Bool, true, false, ◌||◌, List, Contains}
use Rattle.requirement_table.specs.declared.entries.Placed.{Placed}
use Rattle.requirement_table.specs.Instance.{MaySend, release_of}
use Rattle.bit_sets.specs.Sets.{most_slots}
use Rattle.requirement_table.specs.Table.{held_before, is_last_in, releases_in}

-- whether the slot holds an instance in the cycle `from + n`: one that was released before it and not sent, or one that
-- is released in it
abbrev pub waits : List Placed → (ℕ → ℕ → Bool) → ℕ → (ℕ → Bool) → ℕ → ℕ → Bool
waits placed flags from held n slot = held_before placed flags from held n slot || releases_in placed (from + n) slot

-- the flags of the cycle `from + n` are of slots that hold an instance, and each instance is flagged whose last cycle
-- it is
pub record IsGoodCycle (placed : List Placed) (flags : ℕ → ℕ → Bool) (from : ℕ) (held : ℕ → Bool) (n : ℕ) : Type 0 where
  pub holding : (slot : ℕ) → slot < most_slots → flags (from + n) slot ≡ true → waits placed flags from held n slot ≡ true
  pub in_time : (slot : ℕ) → slot < most_slots → waits placed flags from held n slot ≡ true
      → is_last_in placed (from + n) slot ≡ true
      → flags (from + n) slot ≡ true

-- the slot is flagged in exactly one of the cycles from `first` to `last`
pub record IsFlaggedOnce (flags : ℕ → ℕ → Bool) (slot first last : ℕ) : Type 0 where
  pub cycle : ℕ
  pub after : first ≤ cycle
  pub before : cycle ≤ last
  pub flagged : flags cycle slot ≡ true
  pub alone : (other : ℕ) → first ≤ other → other ≤ last → flags other slot ≡ true → other ≡ cycle

-- instance `k` waits in cycle `c`: it was released by then, it is not over, and its slot was not flagged before, from its
-- release and from `from` on; where it was released before `from` its slot is one of those that held an instance then
pub record IsWaiting (placed : List Placed) (flags : ℕ → ℕ → Bool) (from : ℕ) (held : ℕ → Bool) (c : ℕ) (p : Placed)
    (k : ℕ) : Type 0 where
  pub stands : Contains placed p
  pub sends : MaySend p k c
  pub unsent : (earlier : ℕ) → from ≤ earlier → release_of p k ≤ earlier → earlier < c
      → flags earlier p.entry.slot ≡ false
  pub since : release_of p k < from → held p.entry.slot ≡ true

-- an instance of the slot waits in the cycle
pub record HasWaiting (placed : List Placed) (flags : ℕ → ℕ → Bool) (from : ℕ) (held : ℕ → Bool) (c slot : ℕ)
    : Type 0 where
  pub entry : Placed
  pub number : ℕ
  pub of_slot : entry.entry.slot ≡ slot
  pub waiting : IsWaiting placed flags from held c entry number

-- an instance of the slot waits in the cycle that was released before it
pub record HasWaitingBefore (placed : List Placed) (flags : ℕ → ℕ → Bool) (from : ℕ) (held : ℕ → Bool) (c slot : ℕ)
    : Type 0 where
  pub entry : Placed
  pub number : ℕ
  pub of_slot : entry.entry.slot ≡ slot
  pub waiting : IsWaiting placed flags from held c entry number
  pub before : release_of entry number < c
