use Rattle.std.proofs.Common.{◌≡◌, ℕ, ◌-◌, ◌/◌, Some, List, get_or, min, sym, ap, ◌∙◌, subst, arith, IsSome}
use Rattle.stuff_bound.specs.Stuffing.{worst}
use Rattle.cycle_layout.specs.Layout.{async_open, sync_start}
use Rattle.async_window.specs.Mailbox.{IsNextInCycle, Mail, StaysUntil, mail_offer}
use Rattle.async_window.specs.Tournament.{first_bytes}
use Rattle.async_window.specs.Sorted.{mail_of}
use Rattle.async_window.proofs.Soonest.{IsFound, found-stays, next-offer}
use Rattle.async_window.proofs.mailboxes.Mailboxes.soon.Goals as goal

pub returns-in-Some : goal.returns-in-Some
returns-in-Some c =
    let layout = c.args.layout.now in
    let l : ℕ = c.args.l in
    let ids : List ℕ = c.self.inside.ids.items in
    let boxes : List Mail = c.self.inside.boxes.items in
    let table : List ℕ = c.self.inside.places.items in
    let arrivals : List ℕ = c.self.inside.firsts.arrivals in
    let lengths : List ℕ = c.self.inside.firsts.lengths in
    let kept = c.self.invariant in
    let from : ℕ = c.in_ok-from.from in
    let place : ℕ = c.in-Some.first.place in
    let sooner : ℕ = c.in-Some.first.sooner in
    let box : Mail = c.index-boxes-first.result in
    let opened = c.window_in-window.ensures.opened in
    let closed = c.window_in-window.ensures.closed in
    let slice : c.as_slice-boxes.result.now ≡ boxes = c.as_slice-boxes.ensures.value in
    let here : box ≡ get_or boxes place box = c.index-boxes-first.is ∙ ap (λ (mail : List Mail). get_or mail place box) slice in
    let next : IsNextInCycle layout.cycle c.args.at (λ later. IsSome (mail_offer layout l (mail_of ids boxes) later)) (Some from)
    = next-offer layout l c.args.at ids boxes table arrivals lengths c.self.inside.remaining kept c.window_in-window.ensures.known
    c.requires.time c.window_in-window.result.opened c.window_in-window.result.closed (Some from) opened closed
    (c.in_ok-from.ensures.next boxes kept.firsts) in
    let same : from / layout.cycle ≡ c.args.at / layout.cycle = next.0.1 in
    let opens : c.window_in-window.result.opened ≡ async_open layout (from / layout.cycle) = opened ∙ ap (async_open layout) (sym same) in
    let closes : c.window_in-window.result.closed ≡ sync_start layout (from / layout.cycle) l
    = closed ∙ ap (λ cycle. sync_start layout cycle l) (sym same) in
    let found : IsFound layout l ids boxes table arrivals lengths c.self.inside.remaining kept from 8 place sooner
    = grind arith in
    let until : c.offer_of.result.until ≡ min (sooner - 1) (sync_start layout (from / layout.cycle) l - worst (first_bytes (get_or boxes place box).unsent))
    = c.offer_of.ensures.until
    ∙ ap (λ end. min (sooner - 1) (end - worst (first_bytes box.unsent))) closes
    ∙ ap (λ (x : Mail). min (sooner - 1) (sync_start layout (from / layout.cycle) l - worst (first_bytes x.unsent))) here in
    let stays : StaysUntil layout l (mail_of ids boxes) from (get_or boxes place box).identifier c.offer_of.result.until
    = found-stays layout l ids boxes table arrivals lengths c.self.inside.remaining kept from 8 place sooner c.offer_of.result.until box found
    until in
    let identifier : (get_or boxes place box).identifier ≡ c.offer_of.result.id
    = sym (c.offer_of.ensures.id ∙ ap (λ (x : Mail). x.identifier) here) in
    record {
      next = subst (λ mail. IsNextInCycle layout.cycle c.args.at (λ later. IsSome (mail_offer layout l mail later)) (Some from)) c.self.view_is next;
      stays = subst (λ n. StaysUntil layout l c.args.self.now from n c.offer_of.result.until) identifier
          (subst (λ mail. StaysUntil layout l mail from (get_or boxes place box).identifier c.offer_of.result.until) c.self.view_is stays);
    }
