-- Mailboxes in the order of their identifiers, which stand for mail in another order: words for contracts inside the
-- crate.
use Rattle.std.specs.Prelude.{◌≡◌, ◌↔◌, ℕ, ◌<◌, ◌≤◌, Some, List, length, map, slice_get, All, AllPairs, Contains}
use Rattle.async_window.specs.declared.request.Request.{Request}
use Rattle.async_window.specs.Mailbox.{Mail, IsMail, unsent_of, left}
use Rattle.async_window.specs.Tournament.{TellFirsts}

-- the mail of some identifiers, in their order, by mailboxes in any order
abbrev pub mail_of : List ℕ → List Mail → List Mail
mail_of ids boxes = map (λ id. record { identifier = id; unsent = unsent_of boxes id }) ids

-- the place of what is not in a list
abbrev pub nowhere : ℕ
nowhere = 65535

-- a table of the places of mailboxes, by their identifiers
abbrev pub IsPlaceTable : List Mail → List ℕ → Type 0
IsPlaceTable boxes table = (id place : ℕ) → id < 2048 → place < nowhere
    → (slice_get table id ≡ Some place) ↔ (slice_get (map (λ box. box.identifier) boxes) place ≡ Some id)

-- the place that the table has for an identifier; none is above those of the table
pub record IsPlaceOf (table : List ℕ) (id place : ℕ) : Type 0 where
  pub found : id < 2048 → slice_get table id ≡ Some place
  pub above : 2048 ≤ id → place ≡ nowhere

-- the frames of these requests have at most eight data bytes
abbrev pub AreShort : List Request → Type 0
AreShort requests = All (λ request. length request.frame.bytes ≤ 8) requests

-- what holds of mailboxes that stand for the mail of `ids`: they are in the order of their identifiers, with a table of
-- their places, the arrivals and lengths of their first requests, and the number of requests that are left
pub record AreBoxesSorted (ids : List ℕ) (boxes : List Mail) (table arrivals lengths : List ℕ)
    (remaining : ℕ) : Type 0 where
  pub mail : IsMail (mail_of ids boxes)
  pub same : (id : ℕ) → unsent_of (mail_of ids boxes) id ≡ unsent_of boxes id
  pub known : IsMail boxes
  pub rising : AllPairs (λ one other. one.identifier < other.identifier) boxes
  pub owned : (id : ℕ) → Contains ids id ↔ Contains (map (λ box. box.identifier) boxes) id
  pub short : All (λ box. AreShort box.unsent) boxes
  pub long : length table ≡ 2048
  pub places : IsPlaceTable boxes table
  pub firsts : TellFirsts (length boxes) boxes arrivals lengths
  pub counted : remaining ≡ left (mail_of ids boxes)
