use Rattle.std.proofs.Common.{◌≡◌, ℕ, ◌<◌, ◌≤◌, true, false, None, List, [], length, get_or, inl, inr, sym, ap, ◌∙◌, subst, arith}
use Rattle.std.proofs.lemmas.Bool.{cases_Bool}
use Rattle.async_window.specs.Mailbox.{Mail, SomeWaits, mail_offer}
use Rattle.async_window.specs.Tournament.{arrival_within, never}
use Rattle.async_window.proofs.Soonest.{is-offer, never-waits, none-waits, waits-at}
use Rattle.async_window.proofs.mailboxes.Mailboxes.has_arrived.Goals as goal

pub returns : goal.returns
returns c =
    let boxes : List Mail = c.self.inside.boxes.items in
    let far : c.has_arrived.result ≡ false → (k : ℕ) (d : Mail) → k < length boxes → c.args.at < arrival_within 8 (get_or boxes k d).unsent
    = c.has_arrived.ensures.none boxes c.self.invariant.firsts in
    let near : c.has_arrived.result ≡ true → c.args.at < never → (k : ℕ) × (k < length boxes)
    × ((d : Mail) → arrival_within 8 (get_or boxes k d).unsent ≤ c.args.at)
    = c.has_arrived.ensures.some boxes c.self.invariant.firsts in
    record {
      waits = λ time. (
        λ early.
            let found = near early (omega arith) in
            let box : Mail = record { identifier = 0; unsent = [] } in
            subst (λ mail. SomeWaits mail c.args.at) c.self.view_is
            (waits-at c.self.inside.ids.items c.self.inside.boxes.items c.self.inside.places.items c.self.inside.firsts.arrivals
            c.self.inside.firsts.lengths c.self.inside.remaining c.self.invariant c.args.at found.0 box (omega arith) found.1 (found.2 box)),
        λ some. elim (cases_Bool c.has_arrived.result) [
          | inl early ↦ early
          | inr late ↦ absurd (never-waits c.self.inside.ids.items c.self.inside.boxes.items c.self.inside.places.items c.self.inside.firsts.arrivals
              c.self.inside.firsts.lengths c.self.inside.remaining c.self.invariant c.args.at (far late)
              (subst (λ mail. SomeWaits mail c.args.at) (sym c.self.view_is) some))
        ],
      );
      none = λ late layout l later before.
          sym (is-offer layout l c.self.inside.ids.items c.self.inside.boxes.items c.self.inside.places.items c.self.inside.firsts.arrivals
          c.self.inside.firsts.lengths c.self.inside.remaining c.self.invariant later None
          (none-waits layout l c.self.inside.ids.items c.self.inside.boxes.items c.self.inside.places.items c.self.inside.firsts.arrivals
          c.self.inside.firsts.lengths c.self.inside.remaining c.self.invariant later
          (λ k d within. let is = far late k d within in omega (arith, is, before)))
          ∙ ap (λ mail. mail_offer layout l mail later) c.self.view_is);
    }
