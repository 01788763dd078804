-- What is offered, and up to when.
use Rattle.std.proofs.Common.{◌≡◌, ◌≢◌, ℕ, ◌+◌, ◌-◌, ◌<◌, ◌≤◌, ◌&&◌, Bool, true, false, cond, length, get_or, List, [], All, Option, Some, None, ◌⊎◌, inl, inr, refl, sym, ap, ◌∙◌, subst, arith}
use Rattle.std.specs.Prelude.{nat_le, option_map, slice_get, IfSome, MatchOption}
use Rattle.std.specs.Option.{option_map_or}
use Rattle.std.proofs.lemmas.Bool.{cases_Bool, cases_lt, false≢true, le-leb, lt-leb, leb-true, leb-false, and_parts}
use Rattle.std.proofs.lemmas.Bool.Decides.{nat_tests}
use Rattle.stuff_bound.specs.Stuffing.{worst}
use Rattle.profile.specs.Limits.{first_identifier, least_asynchronous}
use Rattle.bit_sets.specs.Least.{least_where}
use Rattle.bit_sets.specs.Sets.{most_slots}
use Rattle.can_frame.specs.DataFrame.{DataFrame}
use Rattle.node_model.specs.Node.{Opened}
use Rattle.node_model.specs.Online.{cycle_of, open_now}
use Rattle.node_model.specs.declared.online.OpenCycle.{OpenCycle}
use Rattle.node_model.specs.Window.{due_bytes, is_due_slot}
use Rattle.live_node.specs.Live.{AreWaiting, LiveView, Waiting, box_of, frames_of}
use Rattle.live_node.specs.Sending.{is_owed, is_ready, live_offer, may_send, offered_in, request_offer, slot_offer}
use Rattle.live_node.specs.Windows.{IsOffered, OffersRequest, OffersSlot}
use Rattle.live_node.specs.declared.offers.LiveOffer.{LiveOffer}
use Rattle.live_node.proofs.Requests.{Passes, Starts, offered-starts, offered-stays, passes-among}
use Rattle.live_node.proofs.Slots.{slot-of, slot-sends, slot-stays}

module _ (view : LiveView) (known : AreWaiting view.mail) where
  abbrev length_of : ℕ
  length_of = view.state.layout.cycle

  -- an offer is one of a slot in the synchronous window, or of a request before it
  pub in-window : (into : ℕ) (opened : Opened) → open_now view.state ≡ Some opened → length_of - opened.width ≤ into
      → live_offer view into ≡ slot_offer view into
  in-window into opened is behind =
      ap (offered_in view into) is
      ∙ ap (λ b. cond b (slot_offer view into) (request_offer view.state.layout opened.width into view.mail)) (le-leb (length_of - opened.width) into behind)

  pub before-window : (into : ℕ) (opened : Opened) → open_now view.state ≡ Some opened → into < length_of - opened.width
      → live_offer view into ≡ request_offer view.state.layout opened.width into view.mail
  before-window into opened is before =
      ap (offered_in view into) is
      ∙ ap (λ b. cond b (slot_offer view into) (request_offer view.state.layout opened.width into view.mail)) (lt-leb (length_of - opened.width) into before)

  -- the windows in which something is offered
  pub offers-in_windows : (into id : ℕ) → live_offer view into ≡ Some id
      → OffersRequest view into id ⊎ ((slot : ℕ) × OffersSlot view into id slot)
  offers-in_windows into id offered = by_open (open_now view.state) refl offered
    where
      by_open : (o : Option Opened) → open_now view.state ≡ o → offered_in view into o ≡ Some id
          → OffersRequest view into id ⊎ ((slot : ℕ) × OffersSlot view into id slot)
      by_open None is none = absurd (grind arith)
      by_open (Some opened) is some =
          elim (cases_lt into (length_of - opened.width)) [
            | inl before ↦
                let at = offered-starts view.state.layout opened.width view.mail known.distinct into id (sym (before-window into opened is before) ∙ offered) in
                inl (record {
                  opened = opened;
                  is_open = is;
                  box = at.0;
                  here = at.1;
                  free = at.2.free;
                  frame = at.2.frame;
                  first = at.2.first;
                  begun = at.2.begun;
                  whole = at.2.whole;
                })
            | inr behind ↦
                let at = slot-of view into id (sym (in-window into opened is behind) ∙ offered) in
                let sends = slot-sends view into at.0 at.1 in
                inr (
                  at.0,
                  record {
                    opened = opened;
                    is_open = is;
                    identifier = at.2;
                    known = sends.0;
                    ready = sends.1;
                    begun = behind;
                    whole = sends.2;
                  },
                )
          ]

  -- how long a slot is offered
  pub slot-offered : (into : ℕ) (opened : Opened) (result : Option LiveOffer) → open_now view.state ≡ Some opened
      → length_of - opened.width ≤ into → option_map (λ offer. offer.id) result ≡ slot_offer view into
      → IfSome result (λ offer. offer.until + worst (length (due_bytes view.state (offer.id - first_identifier))) ≡ length_of)
      → MatchOption result (live_offer view into ≡ None) (IsOffered view into)
  slot-offered into opened None is behind gives until = in-window into opened is behind ∙ sym gives
  slot-offered into opened (Some offer) is behind gives until =
      let at = slot-of view into offer.id (sym gives) in
      let sends = slot-sends view into at.0 at.1 in
      let its : offer.id - first_identifier ≡ at.0 = omega (arith, at.2) in
      let ends : offer.until + worst (length (due_bytes view.state at.0)) ≡ length_of
      = subst (λ s. offer.until + worst (length (due_bytes view.state s)) ≡ length_of) its until in
      record {
        offered = in-window into opened is behind ∙ sym gives;
        from = omega (arith, ends, sends.2);
        stays = λ later begun early.
            in-window later opened is (omega (arith, behind, begun))
            ∙ ap (option_map (λ slot. first_identifier + slot)) (slot-stays view into at.0 later at.1 begun (omega (arith, ends, early)))
            ∙ ap (λ n. Some n) (sym at.2);
        last = λ later late offered.
            let then = slot-of view later offer.id (sym (in-window later opened is (omega (arith, behind, late, ends, sends.2))) ∙ offered) in
            let also = slot-sends view later then.0 then.1 in
            let same : then.0 ≡ at.0 = omega (arith, then.2, at.2) in
            let whole : later + worst (length (due_bytes view.state at.0)) ≤ length_of
            = subst (λ s. later + worst (length (due_bytes view.state s)) ≤ length_of) same also.2 in
            omega (arith, whole, ends, late);
      }

  -- an identifier with requests is an asynchronous one
  pub box-least : (id : ℕ) (box : Waiting) → box_of view.mail id ≡ Some box → least_asynchronous ≤ id
  box-least id box here =
      let among = passes-among (λ b. true) view.mail id (ap (λ o. option_map_or (λ b. true) o false) here) in
      subst (λ n. least_asynchronous ≤ n) (among.2 box) (known.least among.0 box among.1)

  pub first-of : (id : ℕ) (box : Waiting) (frame : DataFrame) → box_of view.mail id ≡ Some box → slice_get box.frames 0 ≡ Some frame
      → slice_get (frames_of view.mail id) 0 ≡ Some frame
  first-of id box frame here first = ap (λ o. slice_get (option_map_or (λ b. b.frames) o []) 0) here ∙ first

  -- how long a request is offered
  pub request-offered : (into : ℕ) (opened : Opened) (result : Option LiveOffer) → open_now view.state ≡ Some opened
      → into < length_of - opened.width
      → option_map (λ offer. offer.id) result ≡ request_offer view.state.layout opened.width into view.mail
      → IfSome result (λ offer. (frame : DataFrame) → slice_get (frames_of view.mail offer.id) 0 ≡ Some frame
      → offer.until + worst (length frame.bytes) ≡ length_of - opened.width)
      → MatchOption result (live_offer view into ≡ None) (IsOffered view into)
  request-offered into opened None is before gives until = before-window into opened is before ∙ sym gives
  request-offered into opened (Some offer) is before gives until =
      let at = offered-starts view.state.layout opened.width view.mail known.distinct into offer.id (sym gives) in
      let ends = until at.2.frame (first-of offer.id at.0 at.2.frame at.1 at.2.first) in
      record {
        offered = before-window into opened is before ∙ sym gives;
        from = omega (arith, ends, at.2.whole);
        stays = λ later begun early.
            before-window later opened is (omega (arith, ends, early))
            ∙ offered-stays view.state.layout opened.width view.mail known.distinct into offer.id later (sym gives) begun
            (λ waiting frame here first. omega (arith, early, until frame (first-of offer.id waiting frame here first)));
        last = λ later late offered.
            elim (cases_lt later (length_of - opened.width)) [
              | inl still ↦
                  let then = offered-starts view.state.layout opened.width view.mail known.distinct later offer.id (sym (before-window later opened is still) ∙ offered) in
                  omega (arith, late, then.2.whole, until then.2.frame (first-of offer.id then.0 then.2.frame then.1 then.2.first))
              | inr behind ↦
                  let then = slot-of view later offer.id (sym (in-window later opened is behind) ∙ offered) in
                  let sends = slot-sends view later then.0 then.1 in
                  omega (arith, then.2, sends.0, box-least offer.id at.0 at.1)
            ];
      }

  -- where no cycle is open, nothing is offered
  pub closed-offers : (into : ℕ) → open_now view.state ≡ None → live_offer view into ≡ None
  closed-offers into is = ap (offered_in view into) is

-- what a driver may know of an open cycle is what is known of it
pub opened-of : (o : Option Opened) (c : OpenCycle) → Some c ≡ option_map cycle_of o
    → (opened : Opened) × (o ≡ Some opened) × (opened.cycle ≡ c.cycle) × (opened.width ≡ c.width)
opened-of None c none = absurd (grind arith)
opened-of (Some opened) c some = (opened, refl, grind arith, grind arith)

pub closed-of : (o : Option Opened) → None ≡ option_map cycle_of o → o ≡ None
closed-of None none = refl
closed-of (Some opened) some = absurd (grind arith)
