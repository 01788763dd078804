-- What a look ahead tells of a node, and what makes one.
use Rattle.std.proofs.Common.{◌≡◌, ℕ, ◌+◌, ◌-◌, ◌<◌, ◌≤◌, Option, Some, None, IsSome, arith}
use Rattle.std.specs.Prelude.{IfSome, option_map}
use Rattle.std.proofs.Math.Nat.{div-eq_of_lt-le}
use Rattle.cycle_layout.specs.Layout.{sync_start}
use Rattle.async_window.specs.declared.mailboxes.Offer.{Offer}
use Rattle.async_window.specs.Mailbox.{IsMail, StaysUntil}
use Rattle.node_model.specs.Node.{IsNextOffer, NodeState, node_offer}
use Rattle.node_model.specs.Ahead.{IsAhead, IsTold, StaysOffered, next_time}
use Rattle.node_model.specs.Kept.{IsOpenAt}
use Rattle.node_model.specs.declared.ahead.OfferAhead.{OfferAhead}
use Rattle.node_model.specs.declared.ahead.Next.{Next}
use Rattle.node_model.specs.declared.cycle.Open.{Open}
use Rattle.node_model.proofs.Mail.{offered-early}
use Rattle.node_model.proofs.Offers.{due_identifier, in_cycle-times, node_offer-early, node_offer-late}

-- nothing is offered between a time and the next offer behind it, and the next offer behind a time from there up to that
-- offer is the same
not-between : (node : NodeState) (since at : ℕ) (found : Option Next) → IsNextOffer node since (next_time found) → since < at
    → IfSome found (λ next. at < next.from) → IsSome (node_offer node at) → ⊥
not-between node since at found next behind before some = grind arith

next-between : (node : NodeState) (since at : ℕ) (found : Option Next) → IsNextOffer node since (next_time found) → since ≤ at
    → IfSome found (λ next. at < next.from) → IsNextOffer node at (next_time found)
next-between node since at found next behind before = grind arith

pub next-behind : (node : NodeState) (look : OfferAhead) (at : ℕ) → IsAhead node look → look.since ≤ at
    → IfSome look.next (λ next. at < next.from) → IsNextOffer node at (next_time look.next)
next-behind node look at ahead since before = next-between node look.since at look.next ahead.0 since before

-- what a look ahead tells is so
told : (node : NodeState) (look : OfferAhead) (at : ℕ) (offered : Option ℕ) → IsAhead node look → IsTold look at offered → node_offer node at ≡ offered
told node look at offered ahead is = grind (arith, not-between)

pub told-all : (node : NodeState) (look : OfferAhead) (at : ℕ) (found : Option (Option ℕ)) → IsAhead node look → IfSome found (IsTold look at)
    → IfSome found (λ offered. node_offer node at ≡ offered)
told-all node look at found ahead is = grind (arith, told)

-- what is offered right behind a time is the next offer
pub next-here : (node : NodeState) (at id : ℕ) → node_offer node (at + 1) ≡ Some id → IsNextOffer node at (Some (at + 1))
next-here node at id offered = grind arith

-- how long an offer of a node stays, where it comes from the mailboxes and where it is that of a slot
module _ (node : NodeState) (at : ℕ) (o : Open) (is : IsOpenAt node at o) where
  pub stays-mail : (found : Option Offer) → IsMail node.mail
      → IfSome found (λ offer. StaysUntil node.layout o.width node.mail at offer.id offer.until) → IfSome found (StaysOffered node at)
  stays-mail found known stays = grind (arith, offered-early, node_offer-early)

  pub stays-due : (found : Option Offer) → 0 < node.layout.cycle → sync_start node.layout o.cycle o.width ≤ at
      → option_map (λ offer. offer.id) found ≡ due_identifier o → IfSome found (λ offer. offer.until ≡ sync_start node.layout o.cycle 0 - 1)
      → IfSome found (StaysOffered node at)
  stays-due None some late due ends = tt
  stays-due (Some offer) some late due ends = λ later from until.
      let times = in_cycle-times node.layout.cycle at o.cycle some is.cycle in
      grind (arith, div-eq_of_lt-le, node_offer-late)
