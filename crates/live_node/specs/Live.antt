-- A node in use: what it knows, and what it is told by its user. It counts times from the start of the cycle in which it is.
-- Times are bit times.
use Rattle.std.specs.Prelude.{◌≡◌, ◌≢◌, ℕ, ◌+◌, ◌-◌, ◌^◌, ◌<◌, ◌≤◌, ◌==◌, ◌&&◌, Bool, false, true, nat_lt, if◌then◌else◌}
use Rattle.std.specs.Prelude.{List, [], ◌∷◌, ◌++◌, All, AllPairs, Contains, length, find, fold, map, slice_index_or}
use Rattle.std.specs.Prelude.{Option, Some, None}
use Rattle.std.specs.Option.{option_map_or}
use Rattle.profile.specs.Limits.{greatest_identifier, least_asynchronous}
use Rattle.can_frame.specs.DataFrame.{DataFrame}
use Rattle.requirement_table.specs.declared.entries.Placed.{Placed}
use Rattle.node_model.specs.Node.{NodeState, entries_of, learnt}
use Rattle.live_node.specs.declared.node.Put.{Put}
use Rattle.live_node.specs.declared.node.Put.TheVariants.{Done, Full, Strange}

-- the requests of one identifier that wait: their frames in their order, how many of them may wait, the number of the
-- first one among all that were put under the identifier, counted from 0, and whether that one is in flight: its frame was
-- loaded, and was told neither as sent nor as withdrawn
pub record Waiting : Type 0 where
  pub identifier : ℕ
  pub frames : List DataFrame
  pub room : ℕ
  pub first : ℕ
  pub loaded : Bool

-- what contracts see of a node in use: what the node of the bus model knows besides its requests, the requests that wait,
-- the bytes that were set for each slot, the origin of the last of the node's entries in each slot, the slots that were
-- sent in the open cycle and those whose frames are in flight, as sets of slots, whether the cycle is known with which it
-- begins, by how many cycles the count of its driver may be off, the most entries of its own that it can learn, and
-- whether it leaves a slot silent for which no fitting bytes are set
pub record LiveView : Type 0 where
  pub state : NodeState
  pub mail : List Waiting
  pub values : List (Option DataFrame)
  pub origins : List (Option ℕ)
  pub sent : ℕ
  pub loaded : ℕ
  pub started : Bool
  pub tolerance : ℕ
  pub entries : ℕ
  pub silent : Bool

-- what is true of the requests of one identifier
pub record IsWaiting (box : Waiting) : Type 0 where
  pub own : All (λ frame. frame.identifier ≡ box.identifier) box.frames
  pub few : box.first + length box.frames < 2 ^ 64

-- what is true of the requests of a node: their identifiers are distinct and asynchronous ones
pub record AreWaiting (mail : List Waiting) : Type 0 where
  pub distinct : AllPairs (λ one other. one.identifier ≢ other.identifier) mail
  pub least : All (λ box. least_asynchronous ≤ box.identifier) mail
  pub greatest : All (λ box. box.identifier ≤ greatest_identifier) mail

-- what is true of the fields of every node in use: it has room for the entries that it can learn
pub record IsLive (mail : List Waiting) (entries spare : ℕ) : Type 0 where
  pub waiting : AreWaiting mail
  pub room : entries ≤ spare

-- an identifier of which no request waits
abbrev pub nothing_waits : ℕ → ℕ → Waiting
nothing_waits room id = record { identifier = id; frames = []; room = room; first = 0; loaded = false }

-- the first requests of an identifier
abbrev pub box_of : List Waiting → ℕ → Option Waiting
box_of mail id = find (λ box. box.identifier == id) mail

-- the frames that wait under an identifier
abbrev pub frames_of : List Waiting → ℕ → List DataFrame
frames_of mail id = option_map_or (λ box. box.frames) (box_of mail id) []

-- the requests of an identifier changed, and the others as they are
abbrev pub with_box : ℕ → (Waiting → Waiting) → List Waiting → List Waiting
with_box id change mail = map (λ box. if box.identifier == id then change box else box) mail

-- What is put

abbrev pub IsOwn : LiveView → ℕ → Type 0
IsOwn view id = Contains (map (λ box. box.identifier) view.mail) id

-- fewer wait than may, and fewer than 2^64 - 1 were put
abbrev pub has_room : Waiting → Bool
has_room box = nat_lt (length box.frames) box.room && nat_lt (box.first + length box.frames) (2 ^ 64 - 1)

abbrev pub room_under : LiveView → ℕ → Bool
room_under view id = option_map_or has_room (box_of view.mail id) false

-- a request behind the others
abbrev pub pushed : DataFrame → Waiting → Waiting
pushed frame box = record box { frames = box.frames ++ frame ∷ [] }

-- a node with a request more
abbrev pub with_request : DataFrame → LiveView → LiveView
with_request frame view = record view { mail = with_box frame.identifier (pushed frame) view.mail }

-- what a request does, by the answer
abbrev pub Puts : LiveView → DataFrame → LiveView → Put → Type 0
Puts old frame new Done =
    IsOwn old frame.identifier × (room_under old frame.identifier ≡ true) × (new ≡ with_request frame old)
Puts old frame new Full = IsOwn old frame.identifier × (room_under old frame.identifier ≡ false) × (new ≡ old)
Puts old frame new Strange = (IsOwn old frame.identifier → ⊥) × (new ≡ old)

-- What is learnt

-- the origin of the last entry of a slot
abbrev pub origin_of : List Placed → ℕ → Option ℕ
origin_of entries slot = fold (λ found p. if p.entry.slot == slot then Some p.origin else found) None entries

-- the bytes that were set for a slot are kept where its last entry is still the same
abbrev pub keeps_bytes : Option ℕ → Option ℕ → Bool
keeps_bytes None now = false
keeps_bytes (Some before) None = false
keeps_bytes (Some before) (Some now) = before == now

-- a node that has learnt a list: it knows the entries of its own, and has forgotten the bytes of slots whose last entry is
-- another one
pub record Learns (placed : List Placed) (old new : LiveView) : Type 0 where
  pub state : new.state ≡ learnt placed old.state
  pub origins : (slot : ℕ) → slot < 96
      → slice_index_or new.origins slot None ≡ origin_of (entries_of old.state.number placed) slot
  pub values : (slot : ℕ) → slot < 96 → slice_index_or new.values slot None
      ≡ (if keeps_bytes (slice_index_or old.origins slot None) (slice_index_or new.origins slot None)
      then slice_index_or old.values slot None else None)
  pub others : new ≡ record old { state = new.state; values = new.values; origins = new.origins }
