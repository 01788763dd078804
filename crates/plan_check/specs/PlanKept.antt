-- *Plan kept*: what it means that flagged slots keep a table for ever, and when a certificate shows it. No policy, no
-- order and no planner is named here. Cycles are elementary cycles, lengths are bit times.
use Rattle.std.specs.Prelude.{◌≡◌, ℕ, ◌+◌, ◌-◌, ◌%◌, ◌<◌, ◌≤◌, max, Bool, true, false, not, ◌&&◌, ◌||◌}
use Rattle.std.specs.Prelude.{nat_eq, nat_le, List, Contains}
use Rattle.std.specs.List.{list_any}
use Rattle.std.specs.Option.{option_map_or}
use Rattle.requirement_table.specs.declared.entries.Placed.{Placed}
use Rattle.requirement_table.specs.Flags.{IsFlaggedOnce}
use Rattle.requirement_table.specs.Instance.{Exists, IsLastCycle, MaySend, deadline_of, release_of}
use Rattle.bit_sets.specs.Sets.{has_bit, most_slots}
use Rattle.requirement_table.specs.Table.{IsHeldFrom, free_from, held_before, width_in}
use Rattle.plan_check.specs.Certificate.{CertificateView, flags_of, length_of}

-- each pending slot has an instance that was released before the cycle and whose last cycle is not below it
abbrev pub HasPending : List Placed → ℕ → (ℕ → Bool) → Type 0
HasPending placed from pending = (slot : ℕ) → pending slot ≡ true → IsHeldFrom placed from slot

-- instance `k` is to be sent in the cycles from `from` on: it exists, its last cycle is not below `from`, and where it
-- was released before `from` its slot is one of the pending ones
pub record IsOwed (placed : List Placed) (from : ℕ) (pending : ℕ → Bool) (p : Placed) (k : ℕ) : Type 0 where
  pub stands : Contains placed p
  pub exists : Exists p (release_of p k)
  pub in_time : from < deadline_of p k
  pub waiting : release_of p k < from → pending p.entry.slot ≡ true

-- such an instance of the slot may be sent in the cycle
pub record IsOwedIn (placed : List Placed) (from : ℕ) (pending : ℕ → Bool) (c slot : ℕ) : Type 0 where
  pub entry : Placed
  pub number : ℕ
  pub owed : IsOwed placed from pending entry number
  pub of_slot : entry.entry.slot ≡ slot
  pub sends : MaySend entry number c

-- *Plan kept*: where the slots of which `pending` holds are pending before the cycle `from`, and `flags c slot` says
-- that the slot is sent in cycle `c`, each instance that is to be sent is sent once, from `from` or its release to its
-- last cycle, nothing else is sent, and what is sent in a cycle fits the window
pub record IsPlanKept (placed : List Placed) (window from : ℕ) (pending : ℕ → Bool) (flags : ℕ → ℕ → Bool)
    : Type 0 where
  pub each : (p : Placed) (k last : ℕ) → IsOwed placed from pending p k → IsLastCycle p k last
      → IsFlaggedOnce flags p.entry.slot (max from (release_of p k)) last
  pub only : (c slot : ℕ) → from ≤ c → slot < most_slots → flags c slot ≡ true → IsOwedIn placed from pending c slot
  pub fits : (c : ℕ) → from ≤ c → width_in placed c (flags c) ≤ window

-- no slot passes the test
abbrev pub NoSlot : (ℕ → Bool) → Type 0
NoSlot test = (slot : ℕ) → slot < most_slots → test slot ≡ false

-- whether a placed entry goes round with the cycles from `first` on, `length` at a time: a live one has had its first
-- release by `first` and its period divides `length`; one with an end is over by `first`
abbrev pub goes_round : ℕ → ℕ → Placed → Bool
goes_round first length p =
    option_map_or (λ free. nat_le free first) (free_from p)
    (nat_le (p.origin + p.entry.phase) first && nat_eq (length % p.entry.period) 0)

-- whether the slot has an entry that doesn't go round with the repeated part of the certificate
abbrev pub is_bad : List Placed → CertificateView → ℕ → Bool
is_bad placed certificate slot =
    list_any (λ p. nat_eq p.entry.slot slot && not (goes_round certificate.first (length_of certificate) p)) placed

-- whether the slot holds an instance that was released before the n-th cycle of the certificate, counted from 0, and
-- not flagged before it
abbrev pub is_held : List Placed → CertificateView → ℕ → ℕ → Bool
is_held placed certificate n slot =
    held_before placed (flags_of certificate) certificate.from (has_bit certificate.pending) n slot

-- one of two holds, and the other does not
abbrev pub differ : Bool → Bool → Bool
differ one other = (one && not other) || (not one && other)

-- whether the slot is pending where the repeated part begins and not behind its end, or the other way
abbrev pub is_open : List Placed → CertificateView → ℕ → Bool
is_open placed certificate slot =
    let before = certificate.first - certificate.from in
    differ (is_held placed certificate before slot) (is_held placed certificate (before + length_of certificate) slot)

-- the repeated part of the certificate can be repeated: all entries go round with it, and it leaves the slots pending
-- that it found pending
pub record HasGoodLoop (placed : List Placed) (certificate : CertificateView) : Type 0 where
  pub rounds : NoSlot (is_bad placed certificate)
  pub closed : NoSlot (is_open placed certificate)

-- the certificate keeps the table for ever, and its loop shows it
pub record IsTaken (placed : List Placed) (window : ℕ) (certificate : CertificateView) : Type 0 where
  pub loop : HasGoodLoop placed certificate
  pub kept : IsPlanKept placed window certificate.from (has_bit certificate.pending) (flags_of certificate)
