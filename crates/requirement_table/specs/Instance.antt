-- The instances of a placed entry. Cycles are elementary cycles, counted from 0.
use Rattle.std.specs.Prelude.{◌≡◌, ℕ, ◌+◌, ◌-◌, ◌*◌, ◌/◌, ◌<◌, ◌≤◌, Bool, true, ◌&&◌}
use Rattle.std.specs.Prelude.{nat_eq, nat_lt, nat_le, if◌then◌else◌, Option, Some, None, IfSome, List}
use Rattle.std.specs.Int.{bytes_high_first}
use Rattle.std.specs.Option.{option_map_or}
use Rattle.requirement_table.specs.declared.entries.Placed.{Placed}

-- the worst length of a frame with `n` data bytes, in bit times
abbrev pub worst : ℕ → ℕ
worst n = 55 + 10 * n

-- the cycle in which instance `k` is released
abbrev pub release_of : Placed → ℕ → ℕ
release_of p k = p.origin + p.entry.phase + k * p.entry.period

-- the cycle before whose start instance `k` is to be sent: release + deadline
abbrev pub deadline_of : Placed → ℕ → ℕ
deadline_of p k = release_of p k + p.entry.deadline

-- `c` is the last cycle in which instance `k` may be sent: release + deadline - 1
abbrev pub IsLastCycle : Placed → ℕ → ℕ → Type 0
IsLastCycle p k c = c + 1 ≡ deadline_of p k

-- an instance with this release exists: the entry has no end, or the release is below it
abbrev pub Exists : Placed → ℕ → Type 0
Exists p release = IfSome p.end (λ end. release < end)

-- instance `k` is released in cycle `c`
pub record IsReleasedIn (p : Placed) (k c : ℕ) : Type 0 where
  pub release : release_of p k ≡ c
  pub exists : Exists p c

-- instance `k` may be sent in cycle `c`: it exists, and `c` is one of the cycles from its release
-- to its last cycle, release + deadline - 1
pub record MaySend (p : Placed) (k c : ℕ) : Type 0 where
  pub exists : Exists p (release_of p k)
  pub released : release_of p k ≤ c
  pub in_time : c < deadline_of p k

-- the number of the latest release at or before `c`, as if there were no end
abbrev pub latest : Placed → ℕ → ℕ
latest p c = (c - (p.origin + p.entry.phase)) / p.entry.period

-- the test of `Exists`
abbrev pub exists : Placed → ℕ → Bool
exists p release = option_map_or (λ end. nat_lt release end) p.end true

-- the test of `MaySend`
abbrev pub may_send : Placed → ℕ → ℕ → Bool
may_send p k c =
    exists p (release_of p k) && nat_le (release_of p k) c && nat_lt c (deadline_of p k)

-- the number of the instance that is released in cycle `c`
abbrev pub released_by : Placed → ℕ → Option ℕ
released_by p c =
    let k = latest p c in if nat_eq (release_of p k) c && exists p c then Some k else None

-- the number of the instance that may be sent in cycle `c`: a deadline is at most the period, so it
-- can be none but the latest one
abbrev pub instance_of : Placed → ℕ → Option ℕ
instance_of p c = let k = latest p c in if may_send p k c then Some k else None

-- the bytes that instance `k` carries: the low `n` bytes of `k`, most significant first
abbrev pub payload : ℕ → ℕ → List ℕ
payload n k = bytes_high_first n k

-- an instance: a placed entry and a number
pub record Instance : Type 0 where
  pub placed : Placed
  pub number : ℕ

-- the bytes that an instance carries
abbrev pub bytes_of : Instance → List ℕ
bytes_of i = payload i.placed.entry.length i.number

-- the worst length of its frame, in bit times
abbrev pub worst_of : Instance → ℕ
worst_of i = worst i.placed.entry.length
