-- Mailboxes: the unsent requests of each of some identifiers, and what they offer. Times are bit times.
use Rattle.std.specs.Prelude.{◌≡◌, ◌≢◌, ℕ, ◌+◌, ◌/◌, ◌<◌, ◌≤◌, ◌==◌, ◌&&◌, Bool, false}
use Rattle.std.specs.Prelude.{nat_le, if◌then◌else◌, List, [], ◌∷◌, length, All, AllPairs, map}
use Rattle.std.specs.Prelude.{filter, drop, find, fold, min, sum_by, Option, Some, None}
use Rattle.std.specs.Option.{option_map_or}
use Rattle.profile.specs.Limits.{arrivals_end, greatest_identifier, least_asynchronous}
use Rattle.stuff_bound.specs.Stuffing.{worst}
use Rattle.can_frame.specs.declared.data_frame.TimedFrame.{TimedFrame}
use Rattle.cycle_layout.specs.Layout.{CycleLayout, async_open, sync_start}
use Rattle.async_window.specs.declared.request.Request.{Request}
use Rattle.async_window.specs.Waiting.{unsent_after, IsRequestWaiting, MayStart}

-- an identifier, and its requests that are not sent, in their order
pub record Mail : Type 0 where
  pub identifier : ℕ
  pub unsent : List Request

-- the mail of these identifiers once the frames `past` have started
abbrev pub mail_after : List ℕ → List Request → List TimedFrame → List Mail
mail_after ids requests past = map (λ id. record { identifier = id; unsent = unsent_after requests past id }) ids

-- the unsent requests of an identifier; none where it has no mailbox
abbrev pub unsent_of : List Mail → ℕ → List Request
unsent_of mail id = option_map_or (λ box. box.unsent) (find (λ box. box.identifier == id) mail) []

-- a mailbox without its first request, where it is that of the identifier and one is left
abbrev pub taken_from : ℕ → Mail → Mail
taken_from id box = if box.identifier == id then record box { unsent = drop 1 box.unsent } else box

-- the mail without the first request of an identifier
abbrev pub without_first : ℕ → List Mail → List Mail
without_first id mail = map (taken_from id) mail

-- the number of requests that are not sent
abbrev pub left : List Mail → ℕ
left mail = sum_by (λ box. length box.unsent) mail

-- what holds of all mail: the identifiers are distinct and asynchronous ones, and each request has the identifier of
-- its mailbox
pub record IsMail (mail : List Mail) : Type 0 where
  pub distinct : AllPairs (λ one other. one.identifier ≢ other.identifier) mail
  pub least : All (λ box. least_asynchronous ≤ box.identifier) mail
  pub greatest : All (λ box. box.identifier ≤ greatest_identifier) mail
  pub own : All (λ box. All (λ request. request.frame.identifier ≡ box.identifier) box.unsent) mail
  pub early : All (λ box. All (λ request. request.at < arrivals_end) box.unsent) mail

-- the identifier is offered at this time: its first unsent request waits and may start, in the cycle of that time,
-- whose synchronous window has the length l
abbrev pub OffersIdentifier : CycleLayout → ℕ → List Mail → ℕ → ℕ → Type 0
OffersIdentifier layout l mail at id = (request : Request)
    × MayStart layout (at / layout.cycle) l (unsent_of mail id) at request

-- some request waits at this time: the first unsent one of some identifier has arrived
pub record SomeWaits (mail : List Mail) (at : ℕ) : Type 0 where
  pub identifier : ℕ
  pub request : Request
  pub waits : IsRequestWaiting (unsent_of mail identifier) at request

-- the least number with a property, or none where no number has it
abbrev pub IsLeastWith : (ℕ → Type 0) → Option ℕ → Type 0
IsLeastWith Has None = (number : ℕ) → Has number → ⊥
IsLeastWith Has (Some least) = Has least × ((number : ℕ) → Has number → least ≤ number)

-- the least time behind `at` that lies in the same cycle, of the length `cycle`, and has a property; none where no such
-- time has it
abbrev pub IsNextInCycle : ℕ → ℕ → (ℕ → Type 0) → Option ℕ → Type 0
IsNextInCycle cycle at Has time = IsLeastWith (λ later. (at < later) × (later / cycle ≡ at / cycle) × Has later) time

-- the test of `MayStart` for the first of these requests
abbrev pub may_start : CycleLayout → ℕ → ℕ → ℕ → List Request → Bool
may_start layout c l at [] = false
may_start layout c l at (request ∷ later) =
    nat_le request.at at &&
    (nat_le (async_open layout c) at && nat_le (at + worst (length request.frame.bytes)) (sync_start layout c l))

-- the least of some numbers
abbrev pub least_of : List ℕ → Option ℕ
least_of [] = None
least_of (first ∷ later) = Some (fold min first later)

-- the least identifier that is offered
abbrev pub mail_offer : CycleLayout → ℕ → List Mail → ℕ → Option ℕ
mail_offer layout l mail at =
    least_of (map (λ box. box.identifier) (filter (λ box. may_start layout (at / layout.cycle) l at box.unsent) mail))

-- `id` is offered at each time from `at` to `until`, all of which lie in one cycle
pub record StaysUntil (layout : CycleLayout) (l : ℕ) (mail : List Mail) (at id until : ℕ) : Type 0 where
  pub from : at ≤ until
  pub cycle : (later : ℕ) → at ≤ later → later ≤ until → later / layout.cycle ≡ at / layout.cycle
  pub offers : (later : ℕ) → at ≤ later → later ≤ until → mail_offer layout l mail later ≡ Some id
