-- What a look ahead says of a node, and what it tells of a time. Times are bit times.
use Rattle.std.specs.Prelude.{◌≡◌, ℕ, ◌<◌, ◌≤◌, Option, None, Some, IfSome, option_map}
use Rattle.async_window.specs.declared.mailboxes.Offer.{Offer}
use Rattle.node_model.specs.Node.{IsNextOffer, NodeState, node_offer}
use Rattle.node_model.specs.declared.ahead.OfferAhead.{OfferAhead}
use Rattle.node_model.specs.declared.ahead.Next.{Next}

-- the time of the next offer
abbrev pub next_time : Option Next → Option ℕ
next_time next = option_map (λ found. found.from) next

-- from a time on, the node offers the same up to another time
abbrev pub StaysOffered : NodeState → ℕ → Offer → Type 0
StaysOffered node from offer = (later : ℕ) → from ≤ later → later ≤ offer.until → node_offer node later ≡ Some offer.id

-- behind the look the node offers something next at the time that it found, and then as long as it says
abbrev pub IsAhead : NodeState → OfferAhead → Type 0
IsAhead node look =
    IsNextOffer node look.since (next_time look.next)
    × IfSome look.next (λ next. StaysOffered node next.from next.offer)

-- the time lies behind the look, and before the time that it found, where it found one
pub record IsQuietAt (look : OfferAhead) (at : ℕ) : Type 0 where
  pub behind : look.since < at
  pub before : IfSome look.next (λ next. at < next.from)

-- the time lies where the offer that the look found stays
pub record IsOfferedAt (look : OfferAhead) (at id : ℕ) : Type 0 where
  pub next : Next
  pub found : look.next ≡ Some next
  pub from : next.from ≤ at
  pub until : at ≤ next.offer.until
  pub same : next.offer.id ≡ id

-- what a look ahead tells of a time: that nothing is offered, or an identifier
abbrev pub IsTold : OfferAhead → ℕ → Option ℕ → Type 0
IsTold look at None = IsQuietAt look at
IsTold look at (Some id) = IsOfferedAt look at id
