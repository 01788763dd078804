-- What tickets count for.
use Rattle.std.proofs.Common.{◌≡◌, ◌≢◌, ℕ, zero, suc, ◌+◌, ◌-◌, ◌^◌, ◌<◌, ◌≤◌, ◌&&◌, ◌||◌, ◌==◌, Bool, true, false, not, cond, is_some, length, get_or, List, [], ◌∷◌, ◌++◌, drop, map, All, AllPairs, Option, Some, None, ◌⊎◌, inl, inr, refl, sym, ap, ◌∙◌, subst, arith}
use Rattle.std.specs.Prelude.{nat_le, nat_lt, option_map, slice_get, if◌then◌else◌}
use Rattle.std.specs.Option.{option_map_or}
use Rattle.std.proofs.lemmas.Bool.{and_from, and_left, and_parts, and_right, cases_Bool, eq-eqb, eqb-true, false≢true, le-leb, lt-leb, leb-true, leb-false, ltb-true, lt-ltb, not_from_true}
use Rattle.std.proofs.lemmas.Bool.Decides.{eqb_tells, nat_tests}
use Rattle.std.proofs.lemmas.List.{length-map}
use Rattle.profile.specs.Limits.{first_identifier, greatest_identifier, least_asynchronous}
use Rattle.bit_sets.specs.Sets.{has_bit, most_slots, set_of}
use Rattle.bit_sets.proofs.Shared.{has_bit-set_of}
use Rattle.can_frame.specs.DataFrame.{DataFrame}
use Rattle.node_model.specs.Online.{open_now}
use Rattle.live_node.specs.declared.flight.Ticket.{Ticket}
use Rattle.live_node.specs.Live.{AreWaiting, LiveView, Waiting, box_of, with_box}
use Rattle.live_node.specs.Sending.{is_ready, live_offer}
use Rattle.live_node.specs.Tickets.{after_load, after_sent, flying, is_first, is_of_slot, is_unsent, with_slot, without_first, without_slot}
use Rattle.live_node.proofs.Boxes.{with_box-absent}
use Rattle.live_node.proofs.Offered.{box-least, offers-in_windows}
use Rattle.live_node.proofs.Windows.{ready-flagged}

-- a change that keeps the identifier changes what is found under it
pub box_of-with : (change : Waiting → Waiting) (id : ℕ) (mail : List Waiting) → ((box : Waiting) → (change box).identifier ≡ box.identifier)
    → box_of (with_box id change mail) id ≡ option_map change (box_of mail id)
box_of-with change id [] keeps = refl
box_of-with change id (box ∷ mail) keeps =
    elim (eqb_tells box.identifier id) [
      | inl here ↦
          ap (λ b. box_of (cond b (change box) box ∷ with_box id change mail) id) here.0
          ∙ ap (λ b. cond b (Some (change box)) (box_of (with_box id change mail) id)) (eq-eqb (change box).identifier id (keeps box ∙ here.1))
          ∙ ap (λ b. option_map change (cond b (Some box) (box_of mail id))) (sym here.0)
      | inr later ↦
          ap (λ b. box_of (cond b (change box) box ∷ with_box id change mail) id) later.0
          ∙ ap (λ b. cond b (Some box) (box_of (with_box id change mail) id)) later.0
          ∙ box_of-with change id mail keeps
          ∙ ap (λ b. option_map change (cond b (Some box) (box_of mail id))) (sym later.0)
    ]

-- a slot stands in a set with it, and the number of the next request is another one
with-has : (slot slots : ℕ) → slot < most_slots → has_bit (with_slot slot slots) slot ≡ true
with-has slot slots within =
    has_bit-set_of most_slots (λ s. (s == slot) || has_bit slots s) slot
    ∙ and_from (nat_lt slot most_slots) ((slot == slot) || has_bit slots slot) (lt-ltb slot most_slots within)
    (ap (λ b. b || has_bit slots slot) (eq-eqb slot slot refl))

next-number : (number : ℕ) (box : Waiting) → is_first number box ≡ true → is_first number (without_first box) ≡ false
next-number number box is =
    let same : box.first ≡ number = eqb-true box.first number (and_parts (box.first == number) (is_some (slice_get box.frames 0)) is).0 in
    and_left (box.first + 1 == number) (is_some (slice_get (drop 1 box.frames) 0)) (grind (arith, nat_tests))

next-found : (number : ℕ) (o : Option Waiting) → option_map_or (is_first number) o false ≡ true
    → option_map_or (is_first number) (option_map without_first o) false ≡ false
next-found number None is = refl
next-found number (Some box) is = next-number number box is

-- a node that was told that a slot was sent
abbrev after_sent-slot : LiveView → ℕ → LiveView
after_sent-slot view id = record view {
  sent = with_slot (id - first_identifier) view.sent;
  loaded = without_slot (id - first_identifier) view.loaded;
}

module _ (view : LiveView) (ticket : Ticket) where
  abbrev asynchronous : Bool
  asynchronous = nat_le least_asynchronous ticket.id

  abbrev slot : ℕ
  slot = ticket.id - first_identifier

  abbrev unsent_as : Bool → LiveView → Bool
  unsent_as b v =
      if b then option_map_or (is_first ticket.number) (box_of v.mail ticket.id) false
      else is_of_slot v ticket && not (has_bit v.sent slot)

  slot-within : is_of_slot view ticket ≡ true → slot < most_slots
  slot-within is =
      let parts = and_parts (nat_le first_identifier ticket.id && nat_lt ticket.id (first_identifier + most_slots)) (option_map_or (λ o. o.cycle == ticket.cycle) (open_now view.state) false) is in
      let range = and_parts (nat_le first_identifier ticket.id) (nat_lt ticket.id (first_identifier + most_slots)) parts.0 in
      omega (arith, leb-true first_identifier ticket.id range.0, ltb-true ticket.id (first_identifier + most_slots) range.1)

  pub sent-once : is_unsent view ticket ≡ true → is_unsent (after_sent ticket.id view) ticket ≡ false
  sent-once unsent =
      elim (cases_Bool asynchronous) [
        | inl request ↦
            let before : option_map_or (is_first ticket.number) (box_of view.mail ticket.id) false ≡ true
            = sym (ap (λ b. unsent_as b view) request) ∙ unsent in
            ap (λ b. unsent_as b (after_sent ticket.id view)) request
            ∙ ap (λ (v : LiveView). option_map_or (is_first ticket.number) (box_of v.mail ticket.id) false)
            (ap (λ b. if b then record view { mail = with_box ticket.id without_first view.mail }
            else after_sent-slot view ticket.id) request)
            ∙ ap (λ o. option_map_or (is_first ticket.number) o false) (box_of-with without_first ticket.id view.mail (λ box. refl))
            ∙ next-found ticket.number (box_of view.mail ticket.id) before
        | inr other ↦
            let before : (is_of_slot view ticket && not (has_bit view.sent slot)) ≡ true
            = sym (ap (λ b. unsent_as b view) other) ∙ unsent in
            let parts = and_parts (is_of_slot view ticket) (not (has_bit view.sent slot)) before in
            let after : after_sent ticket.id view ≡ after_sent-slot view ticket.id
            = ap (λ b. if b then record view { mail = with_box ticket.id without_first view.mail } else after_sent-slot view ticket.id) other in
            ap (λ b. unsent_as b (after_sent ticket.id view)) other
            ∙ ap (λ (v : LiveView). is_of_slot v ticket && not (has_bit v.sent slot)) after
            ∙ and_right (is_of_slot view ticket) (not (has_bit (with_slot slot view.sent) slot))
            (not_from_true (has_bit (with_slot slot view.sent) slot) (with-has slot view.sent (slot-within parts.0)))
      ]

-- requests that are changed without their identifiers stay as they have to be
with_box-get : (change : Waiting → Waiting) (id : ℕ) → ((box : Waiting) → (change box).identifier ≡ box.identifier)
    → (mail : List Waiting) (k : ℕ) (d : Waiting) → (get_or (with_box id change mail) k d).identifier ≡ (get_or mail k d).identifier
with_box-get change id keeps [] k d = refl
with_box-get change id keeps (box ∷ mail) zero d = keeps-either (box.identifier == id)
  where
    keeps-either : (b : Bool) → (cond b (change box) box).identifier ≡ box.identifier
    keeps-either true = keeps box
    keeps-either false = refl
with_box-get change id keeps (box ∷ mail) (suc k) d = with_box-get change id keeps mail k d

with_box-length : (change : Waiting → Waiting) (id : ℕ) (mail : List Waiting) → length (with_box id change mail) ≡ length mail
with_box-length change id mail = length-map mail (λ box. cond (box.identifier == id) (change box) box)

pub with_box-waiting : (change : Waiting → Waiting) (id : ℕ) → ((box : Waiting) → (change box).identifier ≡ box.identifier)
    → (mail : List Waiting) → AreWaiting mail → AreWaiting (with_box id change mail)
with_box-waiting change id keeps mail known =
    let long = with_box-length change id mail in
    record {
      distinct = λ i j d before within same.
          known.distinct i j d before (omega (arith, within, long))
          (sym (with_box-get change id keeps mail i d) ∙ same ∙ with_box-get change id keeps mail j d);
      least = λ k d within. subst (λ n. least_asynchronous ≤ n) (sym (with_box-get change id keeps mail k d)) (known.least k d (omega (arith, within, long)));
      greatest = λ k d within. subst (λ n. n ≤ greatest_identifier) (sym (with_box-get change id keeps mail k d)) (known.greatest k d (omega (arith, within, long)));
    }

-- what is in flight is not offered
loaded-box : (id : ℕ) (mail : List Waiting) (box : Waiting) → box_of (with_box id (flying true) mail) id ≡ Some box → box.loaded ≡ true
loaded-box id mail box here = is (box_of mail id) (sym (box_of-with (flying true) id mail (λ b. refl)) ∙ here)
  where
    is : (o : Option Waiting) → option_map (flying true) o ≡ Some box → box.loaded ≡ true
    is None none = absurd (grind arith)
    is (Some before) some = grind arith

pub loaded-silent : (view : LiveView) (into later id : ℕ) → AreWaiting view.mail → live_offer view into ≡ Some id
    → live_offer (after_load id view) later ≡ Some id → ⊥
loaded-silent view into later id known offered again =
    elim (cases_Bool (nat_le least_asynchronous id)) [
      | inl request ↦
          let after : after_load id view ≡ record view { mail = with_box id (flying true) view.mail }
          = ap (λ b. if b then record view { mail = with_box id (flying true) view.mail }
          else record view { loaded = with_slot (id - first_identifier) view.loaded }) request in
          elim (offers-in_windows (record view { mail = with_box id (flying true) view.mail })
          (with_box-waiting (flying true) id (λ b. refl) view.mail known) later id (sym (ap (λ v. live_offer v later) after) ∙ again)) [
            | inl still ↦ false≢true (sym still.free ∙ loaded-box id view.mail still.box still.here)
            | inr slot ↦ omega (arith, slot.1.identifier, slot.1.known, leb-true least_asynchronous id request)
          ]
      | inr other ↦
          let after : after_load id view ≡ record view { loaded = with_slot (id - first_identifier) view.loaded }
          = ap (λ b. if b then record view { mail = with_box id (flying true) view.mail }
          else record view { loaded = with_slot (id - first_identifier) view.loaded }) other in
          let next : LiveView = record view { loaded = with_slot (id - first_identifier) view.loaded } in
          elim (offers-in_windows next known later id (sym (ap (λ v. live_offer v later) after) ∙ again)) [
            | inl still ↦ omega (arith, box-least view known id still.box still.here, leb-false least_asynchronous id other)
            | inr slot ↦
                let its : id - first_identifier ≡ slot.0 = omega (arith, slot.1.identifier) in
                let flagged = ready-flagged next slot.0 slot.1.opened slot.1.ready slot.1.is_open in
                false≢true (sym flagged.3 ∙ ap (λ s. has_bit (with_slot s view.loaded) slot.0) its ∙ with-has slot.0 view.loaded slot.1.known)
          ]
    ]

-- an identifier without requests has none in flight
pub absent-load : (id : ℕ) (view : LiveView) → least_asynchronous ≤ id → box_of view.mail id ≡ None → after_load id view ≡ view
absent-load id view high none =
    ap (λ b. if b then record view { mail = with_box id (flying true) view.mail }
    else record view { loaded = with_slot (id - first_identifier) view.loaded }) (le-leb least_asynchronous id high)
    ∙ ap (λ mail. record view { mail = mail }) (with_box-absent (flying true) id view.mail none)
