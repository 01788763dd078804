use Rattle.std.proofs.Common.{◌≡◌, ℕ, ◌+◌, ◌-◌, ◌/◌, ◌<◌, ◌≤◌, Some, None, List, length, get_or, min, refl, sym, ap, ◌∙◌, subst}
use Rattle.stuff_bound.specs.Stuffing.{worst}
use Rattle.cycle_layout.specs.Layout.{sync_start}
use Rattle.async_window.specs.Mailbox.{IsLeastWith, IsMail, Mail, OffersIdentifier, StaysUntil, mail_offer}
use Rattle.async_window.specs.Tournament.{arrival_within, first_bytes}
use Rattle.async_window.specs.Sorted.{mail_of}
use Rattle.async_window.proofs.Soonest.{IsFound, found-offers, found-stays, is-offer, none-arrived, none-fits, none-waits}
use Rattle.async_window.proofs.mailboxes.Mailboxes.offer_until.Goals as goal

pub returns-in-Some-first : goal.returns-in-Some-first
returns-in-Some-first c =
    let layout = c.args.layout.now in
    let boxes : List Mail = c.self.inside.boxes.items in
    let place : ℕ = c.in-Some-first.first.place in
    let sooner : ℕ = c.in-Some-first.first.sooner in
    let box : Mail = c.index-boxes-first.result in
    let slice : c.as_slice-boxes.result.now ≡ boxes = c.as_slice-boxes.ensures.value in
    let here : box ≡ get_or boxes place box = c.index-boxes-first.is ∙ ap (λ (mail : List Mail). get_or mail place box) slice in
    let found : IsFound layout c.args.l c.self.inside.ids.items boxes c.self.inside.places.items c.self.inside.firsts.arrivals
    c.self.inside.firsts.lengths c.self.inside.remaining c.self.invariant c.args.at c.in-Some.bytes place sooner
    = record {
      time = c.requires.time;
      known = c.window_in-window.ensures.known;
      fits = λ bytes few whole.
          c.in-Some.ensures.room.3 bytes few (subst (λ n. c.args.at + worst bytes ≤ n) (sym c.window_in-window.ensures.closed) whole);
      opened = subst (λ n. n ≤ c.args.at) c.window_in-window.ensures.opened c.in-Some.ensures.room.1;
      whole = subst (λ n. c.args.at + worst c.in-Some.bytes ≤ n) c.window_in-window.ensures.closed c.in-Some.ensures.room.2;
      within = subst (λ (mail : List Mail). place < length mail) slice c.in-Some-first.ensures.first.0;
      here = subst (λ (mail : List Mail). (d : Mail) → arrival_within c.in-Some.bytes (get_or mail place d).unsent ≤ c.args.at) slice
          c.in-Some-first.ensures.first.1;
      later = c.in-Some-first.ensures.first.2;
      before = subst (λ (mail : List Mail). (k : ℕ) (d : Mail) → k < place → sooner ≤ arrival_within c.in-Some.bytes (get_or mail k d).unsent)
          slice c.in-Some-first.ensures.first.3;
    } in
    let least : IsLeastWith (OffersIdentifier layout c.args.l (mail_of c.self.inside.ids.items boxes) c.args.at) (Some (get_or boxes place box).identifier)
    = found-offers layout c.args.l c.self.inside.ids.items boxes c.self.inside.places.items c.self.inside.firsts.arrivals
    c.self.inside.firsts.lengths c.self.inside.remaining c.self.invariant c.args.at c.in-Some.bytes place sooner box found in
    let until : c.offer_of.result.until ≡ min (sooner - 1) (sync_start layout (c.args.at / layout.cycle) c.args.l - worst (first_bytes (get_or boxes place box).unsent))
    = c.offer_of.ensures.until
    ∙ ap (λ closed. min (sooner - 1) (closed - worst (first_bytes box.unsent))) c.window_in-window.ensures.closed
    ∙ ap (λ (x : Mail). min (sooner - 1) (sync_start layout (c.args.at / layout.cycle) c.args.l - worst (first_bytes x.unsent))) here in
    let stays : StaysUntil layout c.args.l (mail_of c.self.inside.ids.items boxes) c.args.at (get_or boxes place box).identifier c.offer_of.result.until
    = found-stays layout c.args.l c.self.inside.ids.items boxes c.self.inside.places.items c.self.inside.firsts.arrivals
    c.self.inside.firsts.lengths c.self.inside.remaining c.self.invariant c.args.at c.in-Some.bytes place sooner c.offer_of.result.until box found
    until in
    let identifier : (get_or boxes place box).identifier ≡ c.offer_of.result.id
    = sym (c.offer_of.ensures.id ∙ ap (λ (x : Mail). x.identifier) here) in
    record {
      least = subst (λ n. IsLeastWith (OffersIdentifier layout c.args.l c.args.self.now c.args.at) (Some n)) identifier
          (subst (λ mail. IsLeastWith (OffersIdentifier layout c.args.l mail c.args.at) (Some (get_or boxes place box).identifier)) c.self.view_is least);
      value = ap (λ n. Some n) (sym identifier)
          ∙ is-offer layout c.args.l c.self.inside.ids.items boxes c.self.inside.places.items c.self.inside.firsts.arrivals
          c.self.inside.firsts.lengths c.self.inside.remaining c.self.invariant c.args.at (Some (get_or boxes place box).identifier) least
          ∙ ap (λ mail. mail_offer layout c.args.l mail c.args.at) c.self.view_is;
      stays = subst (λ n. StaysUntil layout c.args.l c.args.self.now c.args.at n c.offer_of.result.until) identifier
          (subst (λ mail. StaysUntil layout c.args.l mail c.args.at (get_or boxes place box).identifier c.offer_of.result.until) c.self.view_is stays);
      known = subst IsMail c.self.view_is c.self.invariant.mail;
    }

-- no first request that would fit has arrived, so none is offered
none-found : (c : goal.In-None-first)
    → IsLeastWith
    (OffersIdentifier c.args.layout.now c.args.l (mail_of c.self.inside.ids.items c.self.inside.boxes.items) c.args.at) None
none-found c =
    let fits : (bytes : ℕ) → bytes ≤ 8
    → c.args.at + worst bytes ≤ sync_start c.args.layout.now (c.args.at / c.args.layout.now.cycle) c.args.l
    → bytes ≤ c.in-Some.bytes
    = λ bytes few whole.
    c.in-Some.ensures.room.3 bytes few (subst (λ n. c.args.at + worst bytes ≤ n)
    (sym c.window_in-window.ensures.closed) whole) in
    none-arrived c.args.layout.now c.args.l c.self.inside.ids.items c.self.inside.boxes.items c.self.inside.places.items
    c.self.inside.firsts.arrivals c.self.inside.firsts.lengths c.self.inside.remaining c.self.invariant
    c.args.at c.in-Some.bytes fits
    (subst (λ (mail : List Mail). (k : ℕ) (d : Mail) → k < length mail
    → c.args.at < arrival_within c.in-Some.bytes (get_or mail k d).unsent) c.as_slice-boxes.ensures.value
    c.in-None-first.ensures.first)

pub returns-in-None-first-clause-least : goal.returns-in-None-first-clause-least
returns-in-None-first-clause-least c =
    subst (λ mail. IsLeastWith (OffersIdentifier c.args.layout.now c.args.l mail c.args.at) None) c.self.view_is (none-found c)

pub returns-in-None-first-clause-value : goal.returns-in-None-first-clause-value
returns-in-None-first-clause-value c =
    is-offer c.args.layout.now c.args.l c.self.inside.ids.items c.self.inside.boxes.items c.self.inside.places.items c.self.inside.firsts.arrivals
    c.self.inside.firsts.lengths c.self.inside.remaining c.self.invariant c.args.at None (none-found c)
    ∙ ap (λ mail. mail_offer c.args.layout.now c.args.l mail c.args.at) c.self.view_is

pub returns-in-None-clause-value : goal.returns-in-None-clause-value
returns-in-None-clause-value c =
    is-offer c.args.layout.now c.args.l c.self.inside.ids.items c.self.inside.boxes.items c.self.inside.places.items c.self.inside.firsts.arrivals
    c.self.inside.firsts.lengths c.self.inside.remaining c.self.invariant c.args.at None
    (none-fits c.args.layout.now c.args.l c.self.inside.ids.items c.self.inside.boxes.items c.self.inside.places.items c.self.inside.firsts.arrivals
    c.self.inside.firsts.lengths c.self.inside.remaining c.self.invariant c.args.at
    (λ bytes few opened whole. c.in-None.ensures.room bytes few (subst (λ n. n ≤ c.args.at) (sym c.window_in-window.ensures.opened) opened)
    (subst (λ n. c.args.at + worst bytes ≤ n) (sym c.window_in-window.ensures.closed) whole)))
    ∙ ap (λ mail. mail_offer c.args.layout.now c.args.l mail c.args.at) c.self.view_is

-- no first request has arrived, so none is offered
none-here : (c : goal.Then-not-has_arrived)
    → IsLeastWith
    (OffersIdentifier c.args.layout.now c.args.l (mail_of c.self.inside.ids.items c.self.inside.boxes.items) c.args.at) None
none-here c =
    none-waits c.args.layout.now c.args.l c.self.inside.ids.items c.self.inside.boxes.items c.self.inside.places.items
    c.self.inside.firsts.arrivals c.self.inside.firsts.lengths c.self.inside.remaining c.self.invariant c.args.at
    (c.if-not-has_arrived.ensures.none c.self.inside.boxes.items c.self.invariant.firsts refl)

pub returns-then-not-has_arrived-clause-least : goal.returns-then-not-has_arrived-clause-least
returns-then-not-has_arrived-clause-least c =
    subst (λ mail. IsLeastWith (OffersIdentifier c.args.layout.now c.args.l mail c.args.at) None) c.self.view_is (none-here c)

pub returns-then-not-has_arrived-clause-value : goal.returns-then-not-has_arrived-clause-value
returns-then-not-has_arrived-clause-value c =
    is-offer c.args.layout.now c.args.l c.self.inside.ids.items c.self.inside.boxes.items c.self.inside.places.items c.self.inside.firsts.arrivals
    c.self.inside.firsts.lengths c.self.inside.remaining c.self.invariant c.args.at None (none-here c)
    ∙ ap (λ mail. mail_offer c.args.layout.now c.args.l mail c.args.at) c.self.view_is
