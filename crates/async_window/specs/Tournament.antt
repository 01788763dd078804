-- A tree of numbers, and what its numbers tell of the first requests of mailboxes: words for contracts inside the crate.
-- Times are bit times.
use Rattle.std.specs.Prelude.{◌≡◌, ◌≢◌, ℕ, ◌+◌, ◌*◌, ◌-◌, ◌^◌, ◌<◌, ◌≤◌}
use Rattle.std.specs.Prelude.{nat_le, if◌then◌else◌, List, [], ◌∷◌, length, min, slice_index_or, Option}
use Rattle.async_window.specs.declared.request.Request.{Request}
use Rattle.stuff_bound.specs.Stuffing.{worst}
use Rattle.async_window.specs.Mailbox.{Mail, IsLeastWith}

-- an arrival that never comes
abbrev pub never : ℕ
never = 2 ^ 64 - 1

-- the arrival of the first of some requests, where its frame has at most so many bytes
abbrev pub arrival_within : ℕ → List Request → ℕ
arrival_within bytes [] = never
arrival_within bytes (request ∷ later) = if nat_le (length request.frame.bytes) bytes then request.at else never

-- the number of data bytes of the first of some requests; 0 where there is none
abbrev pub first_bytes : List Request → ℕ
first_bytes [] = 0
first_bytes (request ∷ later) = length request.frame.bytes

-- the same, but `never` where there is none
abbrev pub first_length : List Request → ℕ
first_length [] = never
first_length (request ∷ later) = length request.frame.bytes

-- a node has the lesser number of the two below it
abbrev pub HasLesser : List ℕ → ℕ → Type 0
HasLesser nodes node =
    slice_index_or nodes node 0 ≡ min (slice_index_or nodes (2 * node) 0) (slice_index_or nodes (2 * node + 1) 0)

-- a tree, whose leaves are the numbers, in which each inner node has the lesser number of the two below it, but perhaps
-- for one
pub record IsTreeBut (gap levels : ℕ) (nodes : List ℕ) : Type 0 where
  pub size : length nodes ≡ 2 * 2 ^ levels
  pub low : levels ≤ 11
  pub lesser : (node : ℕ) → 1 ≤ node → node < 2 ^ levels → node ≢ gap → HasLesser nodes node

-- the same without such a gap: node 0 is no node of the tree
abbrev pub IsTree : ℕ → List ℕ → Type 0
IsTree levels nodes = IsTreeBut 0 levels nodes

-- where the first of some numbers that is at most a bound stands, and a number that none before it falls below
pub record IsFirstWithin (bound : ℕ) (numbers : List ℕ) (place sooner : ℕ) : Type 0 where
  pub within : place < length numbers
  pub here : slice_index_or numbers place 0 ≤ bound
  pub later : bound < sooner
  pub most : sooner ≤ never
  pub before : (other : ℕ) → other < place → sooner ≤ slice_index_or numbers other 0

-- the first `count` numbers tell something of the unsent requests of as many mailboxes, and the others are `never`
pub record Tell (count : ℕ) (told : List Request → ℕ) (boxes : List Mail) (numbers : List ℕ) : Type 0 where
  pub room : length boxes ≤ length numbers
  pub each : (place : ℕ) (d : Mail) → place < count → place < length boxes
      → slice_index_or numbers place 0 ≡ told (slice_index_or boxes place d).unsent
  pub rest : (place : ℕ) → count ≤ place → place < length numbers → slice_index_or numbers place 0 ≡ never

-- numbers that tell of the first `count` mailboxes when their first requests arrive, and how many data bytes these have
pub record TellFirsts (count : ℕ) (boxes : List Mail) (arrivals lengths : List ℕ) : Type 0 where
  pub arrive : Tell count (arrival_within 8) boxes arrivals
  pub long : Tell count first_length boxes lengths

-- one number is set to what it has to tell of its mailbox, and the others stay
pub record Notes (told : List Request → ℕ) (boxes : List Mail) (place : ℕ) (old new : List ℕ) : Type 0 where
  pub length : length new ≡ length old
  pub here : (d : Mail) → slice_index_or new place 0 ≡ told (slice_index_or boxes place d).unsent
  pub others : (other : ℕ) → other ≢ place → slice_index_or new other 0 ≡ slice_index_or old other 0

-- what stands where no mailbox is
abbrev pub nobody : Mail
nobody = record { identifier = 0; unsent = [] }

-- the first of some requests may start at `time`, which lies behind `at`, in a window that has opened at `opened` and in
-- which frames end before `closed`
pub record CanStart (opened closed at : ℕ) (unsent : List Request) (time : ℕ) : Type 0 where
  pub behind : at < time
  pub arrived : arrival_within 8 unsent ≤ time
  pub from : opened ≤ time
  pub whole : time + worst (first_bytes unsent) ≤ closed

-- the least time behind `at` at which the first request of one of the first `count` mailboxes may start in such a window
abbrev pub IsSoonestStart : List Mail → ℕ → ℕ → ℕ → ℕ → Option ℕ → Type 0
IsSoonestStart boxes opened closed at count least =
    IsLeastWith (λ time. (place : ℕ) × (place < count)
    × CanStart opened closed at (slice_index_or boxes place nobody).unsent time) least
