use Rattle.std.proofs.Common.{ℕ, ◌+◌, ◌<◌, ◌≤◌, None, List, length, get_or, refl, subst, IsSome}
use Rattle.stuff_bound.specs.Stuffing.{worst}
use Rattle.async_window.specs.Mailbox.{IsNextInCycle, Mail, mail_offer}
use Rattle.async_window.specs.Tournament.{IsSoonestStart, arrival_within}
use Rattle.async_window.proofs.Soonest.{next-offer, none-behind, none-until}
use Rattle.async_window.proofs.mailboxes.Mailboxes.wake_in.Goals as goal

pub returns : goal.returns
returns c = record {
  next =
      subst (λ mail. IsNextInCycle c.args.layout.now.cycle c.args.at (λ later. IsSome (mail_offer c.args.layout.now c.args.l mail later)) c.next.result)
      c.self.view_is
      (next-offer c.args.layout.now c.args.l c.args.at c.self.inside.ids.items c.self.inside.boxes.items c.self.inside.places.items
      c.self.inside.firsts.arrivals c.self.inside.firsts.lengths c.self.inside.remaining c.self.invariant c.window_in-window.ensures.known
      c.requires.time c.window_in-window.result.opened c.window_in-window.result.closed c.next.result c.window_in-window.ensures.opened
      c.window_in-window.ensures.closed
      (subst (λ (mail : List Mail). IsSoonestStart mail c.window_in-window.result.opened c.window_in-window.result.closed c.args.at (length mail)
      c.next.result) c.as_slice-boxes.ensures.value c.next.ensures.next));
}

pub returns-then-is_over : goal.returns-then-is_over
returns-then-is_over c = record {
  next =
      subst (λ mail. IsNextInCycle c.args.layout.now.cycle c.args.at (λ later. IsSome (mail_offer c.args.layout.now c.args.l mail later)) None)
      c.self.view_is
      (none-behind c.args.layout.now c.args.l c.self.inside.ids.items c.self.inside.boxes.items c.self.inside.places.items
      c.self.inside.firsts.arrivals c.self.inside.firsts.lengths c.self.inside.remaining c.self.invariant c.args.at
      (subst (λ n. n ≤ c.args.at + worst 0) c.window_in-window.ensures.closed (c.if-is_over.ensures.over.0 refl)));
}

pub returns-then-not-has_arrived : goal.returns-then-not-has_arrived
returns-then-not-has_arrived c =
    let boxes : List Mail = c.self.inside.boxes.items in
    let far : (k : ℕ) (d : Mail) → k < length boxes → c.window_in-window.result.closed < arrival_within 8 (get_or boxes k d).unsent
    = c.if-not-has_arrived.ensures.none boxes c.self.invariant.firsts refl in
    record {
      next =
          subst (λ mail. IsNextInCycle c.args.layout.now.cycle c.args.at (λ later. IsSome (mail_offer c.args.layout.now c.args.l mail later)) None)
          c.self.view_is
          (none-until c.args.layout.now c.args.l c.self.inside.ids.items c.self.inside.boxes.items c.self.inside.places.items
          c.self.inside.firsts.arrivals c.self.inside.firsts.lengths c.self.inside.remaining c.self.invariant c.args.at
          (subst (λ n. (k : ℕ) (d : Mail) → k < length boxes
          → n < arrival_within 8 (get_or boxes k d).unsent) c.window_in-window.ensures.closed far));
    }
