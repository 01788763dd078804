-- What a node offers lies in the window of its open cycle.
use Rattle.std.proofs.Common.{◌≡◌, ℕ, ◌+◌, ◌-◌, ◌<◌, ◌≤◌, ◌&&◌, Bool, true, false, cond, leb, List, [], ◌∷◌, length, filter, All, fold, inl, inr, Option, None, Some, refl, sym, ap, ◌∙◌, subst, arith}
use Rattle.std.specs.Prelude.{map, min, option_map, nat_le}
use Rattle.std.proofs.lemmas.List.Elements.{All-filter, All-head, All-map, All-tail}
use Rattle.std.proofs.lemmas.Bool.{and_parts, cases_Bool, leb-true}
use Rattle.profile.specs.Limits.{first_identifier, least_asynchronous}
use Rattle.bit_sets.specs.Least.{least_where}
use Rattle.bit_sets.specs.Sets.{most_slots}
use Rattle.bit_sets.proofs.Shared.{IsLeastBelow, least_where-of}
use Rattle.can_frame.specs.DataFrame.{DataFrame}
use Rattle.cycle_layout.specs.Layout.{CycleLayout, trigger_part}
use Rattle.async_window.specs.Mailbox.{least_of}
use Rattle.node_model.specs.Node.{Opened}
use Rattle.node_model.specs.Online.{open_now}
use Rattle.live_node.specs.Live.{LiveView, Waiting}
use Rattle.live_node.specs.Sending.{is_ready, live_offer, may_begin, may_send, may_start, offered_in, request_offer, slot_offer}

-- a slot is offered in the synchronous window of the open cycle, where it is ready
pub record IsSlotOffered (view : LiveView) (into slot : ℕ) (opened : Option Opened) : Type 0 where
  pub it : Opened
  pub is_open : opened ≡ Some it
  pub begun : view.state.layout.cycle - it.width ≤ into
  pub ready : is_ready view slot ≡ true

-- a request is offered behind the trigger part and the turnaround
pub record IsRequestOffered (view : LiveView) (into : ℕ) (opened : Option Opened) : Type 0 where
  pub it : Opened
  pub is_open : opened ≡ Some it
  pub begun : trigger_part view.state.layout + view.state.layout.turnaround ≤ into

-- slots

slot-found : (view : LiveView) (into id : ℕ) (found : Option ℕ) → IsLeastBelow most_slots (may_send view into) found
    → option_map (λ slot. first_identifier + slot) found ≡ Some id → (id < least_asynchronous) × (may_send view into (id - first_identifier) ≡ true)
slot-found view into id None below is = absurd (cc)
slot-found view into id (Some slot) below is =
    let same : first_identifier + slot ≡ id = grind arith in
    let back : id - first_identifier ≡ slot = omega arith in
    (omega (arith, below.0), subst (λ s. may_send view into s ≡ true) (sym back) below.1)

slot-of : (view : LiveView) (into id : ℕ) → slot_offer view into ≡ Some id
    → (id < least_asynchronous) × (may_send view into (id - first_identifier) ≡ true)
slot-of view into id is =
    slot-found view into id (least_where most_slots (may_send view into)) (least_where-of most_slots (may_send view into) (least_where most_slots (may_send view into)) refl) is

-- requests

begin-at : (layout : CycleLayout) (l into : ℕ) (frames : List DataFrame) → may_begin layout l into frames ≡ true
    → trigger_part layout + layout.turnaround ≤ into
begin-at layout l into [] is = absurd (cc)
begin-at layout l into (frame ∷ later) is = leb-true (trigger_part layout + layout.turnaround) into (and_parts _ _ is).0

request-of : (layout : CycleLayout) (l into : ℕ) (mail : List Waiting) (id : ℕ) → request_offer layout l into mail ≡ Some id
    → trigger_part layout + layout.turnaround ≤ into
request-of layout l into [] id is = absurd (cc)
request-of layout l into (box ∷ mail) id is = elim (cases_Bool (may_start layout l into box)) [
  | inl passes ↦ begin-at layout l into box.frames (and_parts _ _ passes).1
  | inr fails_ ↦ request-of layout l into mail id
      (sym (ap (λ b. least_of (map (λ (box : Waiting). box.identifier) (cond b (box ∷ filter (may_start layout l into) mail) (filter (may_start layout l into) mail)))) fails_) ∙ is)
]

-- both

-- the least of numbers that are not below one is not below it
least-low : (low : ℕ) (first : ℕ) (xs : List ℕ) → low ≤ first → All (λ x. low ≤ x) xs → low ≤ fold min first xs
least-low low first [] from all = from
least-low low first (x ∷ xs) from all =
    let here = All-head (λ x. low ≤ x) x xs all in
    least-low low (min first x) xs (omega arith) (All-tail (λ x. low ≤ x) x xs all)

least_of-low : (low id : ℕ) (xs : List ℕ) → All (λ x. low ≤ x) xs → least_of xs ≡ Some id → low ≤ id
least_of-low low id [] all is = absurd (cc)
least_of-low low id (x ∷ xs) all is =
    let from = least-low low x xs (All-head (λ x. low ≤ x) x xs all) (All-tail (λ x. low ≤ x) x xs all) in
    let same : fold min x xs ≡ id = grind arith in
    subst (λ n. low ≤ n) same from

-- the identifiers of a node's requests are asynchronous ones
abbrev pub AreRequests : LiveView → Type 0
AreRequests view = All (λ (box : Waiting). least_asynchronous ≤ box.identifier) view.mail

request-low : (view : LiveView) (into id : ℕ) (o : Opened) → AreRequests view
    → request_offer view.state.layout o.width into view.mail ≡ Some id → least_asynchronous ≤ id
request-low view into id o all is =
    least_of-low least_asynchronous id (map (λ (box : Waiting). box.identifier) (filter (may_start view.state.layout o.width into) view.mail))
    (All-map (λ n. least_asynchronous ≤ n) (λ (box : Waiting). box.identifier) (filter (may_start view.state.layout o.width into) view.mail)
    (All-filter (may_start view.state.layout o.width into) (λ (box : Waiting). least_asynchronous ≤ box.identifier) view.mail all)) is

slot-in : (view : LiveView) (into slot : ℕ) (opened : Option Opened) → slot < most_slots → AreRequests view
    → offered_in view into opened ≡ Some (first_identifier + slot) → IsSlotOffered view into slot opened
slot-in view into slot None known all is = absurd (cc)
slot-in view into slot (Some o) known all is = elim (cases_Bool (nat_le (view.state.layout.cycle - o.width) into)) [
  | inl late_ ↦
      let found = slot-of view into (first_identifier + slot)
      (sym (ap (λ b. cond b (slot_offer view into) (request_offer view.state.layout o.width into view.mail)) late_) ∙ is) in
      let back : first_identifier + slot - first_identifier ≡ slot = omega arith in
      record {
        it = o;
        is_open = refl;
        begun = leb-true (view.state.layout.cycle - o.width) into late_;
        ready = (and_parts _ _ (subst (λ s. may_send view into s ≡ true) back found.1)).0;
      }
  | inr early ↦
      let low = request-low view into (first_identifier + slot) o all
      (sym (ap (λ b. cond b (slot_offer view into) (request_offer view.state.layout o.width into view.mail)) early) ∙ is) in
      absurd (omega (arith, low, known))
]

pub slot-offered : (view : LiveView) (into slot : ℕ) → slot < most_slots → AreRequests view → live_offer view into ≡ Some (first_identifier + slot)
    → IsSlotOffered view into slot (open_now view.state)
slot-offered view into slot known all is = slot-in view into slot (open_now view.state) known all is

request-in : (view : LiveView) (into id : ℕ) (opened : Option Opened) → least_asynchronous ≤ id
    → offered_in view into opened ≡ Some id → IsRequestOffered view into opened
request-in view into id None low is = absurd (cc)
request-in view into id (Some o) low is = elim (cases_Bool (nat_le (view.state.layout.cycle - o.width) into)) [
  | inl late_ ↦
      let found = slot-of view into id
      (sym (ap (λ b. cond b (slot_offer view into) (request_offer view.state.layout o.width into view.mail)) late_) ∙ is) in
      absurd (omega (arith, found.0, low))
  | inr early ↦ record {
    it = o;
    is_open = refl;
    begun = request-of view.state.layout o.width into view.mail id
        (sym (ap (λ b. cond b (slot_offer view into) (request_offer view.state.layout o.width into view.mail)) early) ∙ is);
  }
]

pub request-offered : (view : LiveView) (into id : ℕ) → least_asynchronous ≤ id → live_offer view into ≡ Some id
    → IsRequestOffered view into (open_now view.state)
request-offered view into id low is = request-in view into id (open_now view.state) low is
