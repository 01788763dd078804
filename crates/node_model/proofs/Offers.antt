-- What a node offers at the times of its open cycle.
use Rattle.std.proofs.Common.{◌≡◌, ℕ, ◌+◌, ◌-◌, ◌*◌, ◌/◌, ◌<◌, ◌≤◌, ◌&&◌, Bool, true, false, max, nat_eq, nat_lt, is_some, if◌then◌else◌, Option, Some, None, IsSome, [], slice_get, ◌⊎◌, inl, inr, refl, ◌∙◌, arith, ⊎_elim}
use Rattle.std.proofs.lemmas.Grind.{common_steps}
use Rattle.std.specs.Option.{option_map, option_map_or}
use Rattle.std.proofs.lemmas.Bool.{cond-false, eq-eqb, eqb-true, leb-true, le-leb, lt-leb, ltb-true, lt-ltb, cases_lt, false≢true, and_parts, and_from}
use Rattle.std.proofs.lemmas.Bool.Decides.{nat_tests}
use Rattle.std.proofs.lemmas.Option.{none-some}
use Rattle.std.proofs.Math.Nat.{div-eq_of_lt-le, div-lt_iff_lt-mul, le-div_iff_mul-le}
use Rattle.profile.specs.Limits.{first_identifier}
use Rattle.cycle_layout.specs.Layout.{sync_start}
use Rattle.bit_sets.specs.Sets.{has_bit, most_slots}
use Rattle.can_frame.specs.DataFrame.{DataFrame}
use Rattle.async_window.specs.declared.request.Request.{Request}
use Rattle.async_window.specs.Mailbox.{IsMail, IsNextInCycle, mail_offer, unsent_of}
use Rattle.bit_sets.specs.Least.{least_where}
use Rattle.node_model.specs.Node.{IsNextOffer, IsNode, NodeState, Opened, is_due, node_frame, node_offer, offer_in}
use Rattle.node_model.specs.Kept.{IsOpenAt, KnowsDue, opened_of}
use Rattle.node_model.specs.Window.{due_frame, is_due_slot}
use Rattle.node_model.specs.declared.cycle.Open.{Open}
use Rattle.bit_sets.proofs.Shared.{least_where-same, least_where-of}
use Rattle.node_model.proofs.Mail.{offered-early, offered-asynchronous, offered-request}

-- the same cycle is open at another time in it
pub IsOpenAt-later : (node : NodeState) (at later : ℕ) (o : Open) → IsOpenAt node at o → later / node.layout.cycle ≡ at / node.layout.cycle → IsOpenAt node later o
IsOpenAt-later node at later o is same = record { opened = is.opened; cycle = same ∙ is.cycle; due = is.due }

-- what is offered in the open cycle
in_cycle : (node : NodeState) (at : ℕ) (o : Open) → IsOpenAt node at o → node_offer node at ≡ offer_in node at (opened_of o)
in_cycle node at o is = rw is.opened refl

-- the identifier of the least slot that is due
abbrev pub due_identifier : Open → Option ℕ
due_identifier o = option_map (λ slot. first_identifier + slot) (least_where most_slots (has_bit o.due))

pub node_offer-late : (node : NodeState) (at : ℕ) (o : Open) → IsOpenAt node at o → sync_start node.layout o.cycle o.width ≤ at → node_offer node at ≡ due_identifier o
node_offer-late node at o is late = grind (arith, in_cycle, eq-eqb, le-leb, least_where-same)

pub node_offer-early : (node : NodeState) (at : ℕ) (o : Open) → IsOpenAt node at o → at < sync_start node.layout o.cycle o.width → node_offer node at ≡ mail_offer node.layout o.width node.mail at
node_offer-early node at o is early = grind (arith, nat_tests, in_cycle, eq-eqb)

-- a time in a cycle
pub in_cycle-times : (length at c : ℕ) → 0 < length → at / length ≡ c → (c * length ≤ at) × (at < (c + 1) * length)
in_cycle-times length at c some is = grind (arith, le-div_iff_mul-le, div-lt_iff_lt-mul)

some-number : (found : Option ℕ) → IsSome found → (n : ℕ) × (found ≡ Some n)
some-number found some = grind (arith, false≢true)

is_some-map : (f : ℕ → ℕ) (found : Option ℕ) → is_some (option_map f found) ≡ is_some found
is_some-map f found = grind arith

-- when a node wakes in its open cycle
module _ (node : NodeState) (at : ℕ) (o : Open) (is : IsOpenAt node at o) (some_time : 0 < node.layout.cycle) (known : IsMail node.mail) where
  abbrev window : ℕ
  window = sync_start node.layout o.cycle o.width

  abbrev ends : ℕ
  ends = (o.cycle + 1) * node.layout.cycle

  abbrev MailOffers : ℕ → Type 0
  MailOffers later = IsSome (mail_offer node.layout o.width node.mail later)

  abbrev NodeOffers : ℕ → Type 0
  NodeOffers later = IsSome (node_offer node later)

  -- the mailboxes offer nothing from the synchronous window's start on
  mail-early : (later : ℕ) → later / node.layout.cycle ≡ at / node.layout.cycle → MailOffers later → later < window
  mail-early later same offers = grind (arith, some-number, offered-early)

  offers-early : (later : ℕ) → later / node.layout.cycle ≡ at / node.layout.cycle → later < window → node_offer node later ≡ mail_offer node.layout o.width node.mail later
  offers-early later same early = node_offer-early node later o (IsOpenAt-later node at later o is same) early

  offers-late : (later : ℕ) → later / node.layout.cycle ≡ at / node.layout.cycle → window ≤ later → node_offer node later ≡ due_identifier o
  offers-late later same late = node_offer-late node later o (IsOpenAt-later node at later o is same) late

  -- a time at which the mailboxes wake comes before all of the synchronous window
  pub wake-mail : (t : ℕ) → IsNextInCycle node.layout.cycle at MailOffers (Some t) → IsNextInCycle node.layout.cycle at NodeOffers (Some t)
  wake-mail t next = grind (arith, mail-early, offers-early, cases_lt)

  -- in the synchronous window the mailboxes don't wake
  pub mail-late : window ≤ at → IsNextInCycle node.layout.cycle at MailOffers None
  mail-late late = λ later other. let early = mail-early later other.1 other.2 in omega (arith, early, other.0)

  -- where the mailboxes don't wake, only the synchronous window is left
  late-only : IsNextInCycle node.layout.cycle at MailOffers None → (later : ℕ) → at < later → later / node.layout.cycle ≡ at / node.layout.cycle → NodeOffers later
      → (window ≤ later) × (is_some (least_where most_slots (has_bit o.due)) ≡ true)
  late-only none later behind same offers = grind (arith, offers-early, is_some-map, is_some, offers-late, cases_lt)

  abbrev first_late : ℕ
  first_late = max (at + 1) window

  abbrev has_late : Bool
  has_late = is_some (least_where most_slots (has_bit o.due)) && nat_lt first_late ends

  wake-late : IsNextInCycle node.layout.cycle at MailOffers None → has_late ≡ true → IsNextInCycle node.layout.cycle at NodeOffers (Some first_late)
  wake-late none has =
      grind (arith, common_steps, and_parts, is_some, nat_lt, ltb-true, in_cycle-times, div-eq_of_lt-le, is_some-map, offers-late, late-only)

  wake-never : IsNextInCycle node.layout.cycle at MailOffers None → has_late ≡ false → IsNextInCycle node.layout.cycle at NodeOffers None
  wake-never none has = grind (arith, late-only, in_cycle-times, false≢true, and_from, lt-ltb)

  pub wake-due : (next : Option ℕ) → IsNextInCycle node.layout.cycle at MailOffers None → next ≡ (if has_late then Some first_late else None)
      → IsNextInCycle node.layout.cycle at NodeOffers next
  wake-due next none value = grind (arith, wake-late, wake-never)

-- a node offers something only in its open cycle, behind the cycle's start
offers-within : (node : NodeState) (at : ℕ) (o : Opened) → IsNode node → node.opened ≡ Some o → IsSome (node_offer node at)
    → (at / node.layout.cycle ≡ o.cycle) × (o.cycle * node.layout.cycle < at)
offers-within node at o known opened some = grind (arith, eqb-true, leb-true, some-number, offered-request)

-- when it offers something next, in whatever cycle
pub next-offer : (node : NodeState) (at : ℕ) (o : Opened) (found : Option ℕ) → IsNode node → node.opened ≡ Some o
    → IsNextInCycle node.layout.cycle (max at (o.cycle * node.layout.cycle)) (λ later. IsSome (node_offer node later)) found → IsNextOffer node at found
next-offer node at o found known opened next = grind (arith, offers-within, in_cycle-times, div-eq_of_lt-le)

-- where the mailboxes offer nothing before the synchronous window, only the slots that are due are left
module _ (node : NodeState) (at : ℕ) (o : Open) (known : IsNode node) (opened : node.opened ≡ Some (opened_of o)) (due : KnowsDue node.entries o)
    (silent : (later : ℕ) → later ≤ sync_start node.layout o.cycle o.width → mail_offer node.layout o.width node.mail later ≡ None) where
  abbrev E : ℕ
  E = node.layout.cycle

  abbrev window_at : ℕ
  window_at = sync_start node.layout o.cycle o.width

  abbrev first_at : ℕ
  first_at = max (at + 1) window_at

  abbrev has_due : Bool
  has_due = is_some (least_where most_slots (has_bit o.due))

  abbrev is_there : Bool
  is_there = has_due && nat_lt first_at ((o.cycle + 1) * E)

  some-due : (later : ℕ) → IsSome (node_offer node later) → (window_at ≤ later) × (later < (o.cycle + 1) * E) × (has_due ≡ true)
  some-due later some = grind (arith, offers-within, in_cycle-times, false≢true, node_offer-early, is_some-map, is_some, node_offer-late, cases_lt)

  due-there : is_there ≡ true → IsNextOffer node at (Some first_at)
  due-there there =
      let parts = and_parts has_due (nat_lt first_at ((o.cycle + 1) * E)) there in
      let before : first_at < (o.cycle + 1) * E = ltb-true first_at ((o.cycle + 1) * E) parts.1 in
      let range = rw opened at known.opened in
      let from : o.cycle * E ≤ first_at = omega (arith, range.0, known.layout.room) in
      let is : IsOpenAt node first_at o = record { opened = opened; cycle = div-eq_of_lt-le E from before; due = due } in
      let some : IsSome (due_identifier o) = is_some-map (λ slot. first_identifier + slot) (least_where most_slots (has_bit o.due)) ∙ parts.0 in (grind (arith, node_offer-late, some-due))

  due-nowhere : is_there ≡ false → IsNextOffer node at None
  due-nowhere nowhere = grind (arith, some-due, false≢true, and_from, lt-ltb)

  pub next-due : (next : Option ℕ) → next ≡ (if is_there then Some first_at else None) → IsNextOffer node at next
  next-due next value = grind (arith, due-there, due-nowhere)

-- what an offered identifier says

-- the slot of a synchronous identifier: the node is to send it, and the frame is that of the slot
pub record IsOfferedSlot (node : NodeState) (at id : ℕ) : Type 0 where
  pub from : first_identifier ≤ id
  pub below : id < first_identifier + most_slots
  pub due : is_due_slot node (id - first_identifier) ≡ true
  pub frame : due_frame node (id - first_identifier) ≡ node_frame node at id

offered_slot-at : (node : NodeState) (at id slot : ℕ) (o : Opened) → node.opened ≡ Some o → at / node.layout.cycle ≡ o.cycle → first_identifier + slot ≡ id
    → slot < most_slots → is_due node.entries o slot ≡ true → IsOfferedSlot node at id
offered_slot-at node at id slot o opened cycle is within due = grind (arith, cond-false, lt-leb)

abbrev IsOffered : NodeState → ℕ → ℕ → Type 0
IsOffered node at id = IsOfferedSlot node at id ⊎ ((l : ℕ) × (mail_offer node.layout l node.mail at ≡ Some id))

offered-in : (node : NodeState) (at id : ℕ) (o : Opened) → node.opened ≡ Some o → offer_in node at o ≡ Some id → IsOffered node at id
offered-in node at id o opened offered =
    ⊎_elim
    (λ (slot : (nat_eq (at / node.layout.cycle) o.cycle ≡ true) × (s : ℕ) × (least_where most_slots (is_due node.entries o) ≡ Some s) × (first_identifier + s ≡ id)).
    let least = least_where-of most_slots (is_due node.entries o) (Some slot.1) slot.2 in
    inl (offered_slot-at node at id slot.1 o opened (eqb-true _ _ slot.0) slot.3 least.0 least.1))
    (λ (mail : mail_offer node.layout o.width node.mail at ≡ Some id). inr (o.width, mail))
    (grind arith)

offered-cases : (node : NodeState) (at id : ℕ) (opened : Option Opened) → node.opened ≡ opened → node_offer node at ≡ Some id → IsOffered node at id
offered-cases node at id opened is offered = grind (arith, none-some, offered-in)

pub offered-slot : (node : NodeState) (at id : ℕ) → IsMail node.mail → node_offer node at ≡ Some id → id < 0x200 → IsOfferedSlot node at id
offered-slot node at id known offered synchronous =
    ⊎_elim
    (λ (slot : IsOfferedSlot node at id). slot)
    (λ (mail : (l : ℕ) × (mail_offer node.layout l node.mail at ≡ Some id)). grind (arith, offered-asynchronous))
    (offered-cases node at id node.opened refl offered)

pub offered-mail : (node : NodeState) (at id : ℕ) → IsMail node.mail → node_offer node at ≡ Some id → 0x200 ≤ id → is_some (slice_get (unsent_of node.mail id) 0) ≡ true
offered-mail node at id known offered asynchronous =
    ⊎_elim
    (λ (slot : IsOfferedSlot node at id). let below = slot.below in absurd (omega arith))
    (λ (mail : (l : ℕ) × (mail_offer node.layout l node.mail at ≡ Some id)). grind (arith, is_some, offered-request))
    (offered-cases node at id node.opened refl offered)

-- a frame that a node offers of its mailboxes is that of a first unsent request
pub no-request : (found : Option Request) → option_map (λ request. request.frame) found ≡ None → is_some found ≡ true → ⊥
no-request found frame some = grind (arith, false≢true, none-some)

pub node_frame-mail : (node : NodeState) (at id : ℕ) (frame : DataFrame) → 0x200 ≤ id → frame ≡ record { identifier = id; bytes = option_map_or (λ request. request.frame.bytes) (slice_get (unsent_of node.mail id) 0) [] }
    → frame ≡ node_frame node at id
node_frame-mail node at id frame asynchronous is = rw (le-leb 0x200 id asynchronous) is
