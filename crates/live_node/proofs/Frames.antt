-- The frame of what is offered.
use Rattle.std.proofs.Common.{◌≡◌, ℕ, ◌+◌, ◌-◌, ◌<◌, ◌≤◌, ◌&&◌, ◌||◌, Bool, true, false, not, is_some, Some, ◌⊎◌, inl, inr, refl, sym, ap, ◌∙◌, subst, arith}
use Rattle.std.specs.Prelude.{slice_get, IsSome}
use Rattle.std.proofs.lemmas.Bool.{and_parts}
use Rattle.profile.specs.Limits.{first_identifier, least_asynchronous}
use Rattle.bit_sets.specs.Sets.{has_bit}
use Rattle.node_model.specs.Online.{open_now}
use Rattle.node_model.specs.Window.{is_due_slot}
use Rattle.live_node.specs.Live.{AreWaiting, LiveView, frames_of}
use Rattle.live_node.specs.Sending.{IsDueUnder, has_set, is_owed, is_ready, live_offer}
use Rattle.live_node.proofs.Offered.{box-least, first-of, offers-in_windows}

pub ready-due : (view : LiveView) (slot : ℕ) → is_ready view slot ≡ true → is_due_slot view.state slot ≡ true
ready-due view slot ready =
    let owed = and_parts (is_owed view slot) (not (has_bit view.loaded slot) && (not view.silent || has_set view slot)) ready in
    let due = and_parts (is_some (open_now view.state)) (is_due_slot view.state slot && not (has_bit view.sent slot)) owed.0 in
    (and_parts (is_due_slot view.state slot) (not (has_bit view.sent slot)) due.1).0

pub offered-due : (view : LiveView) (into id : ℕ) → AreWaiting view.mail → live_offer view into ≡ Some id → id < least_asynchronous
    → IsDueUnder view id
offered-due view into id known offered low =
    elim (offers-in_windows view known into id offered) [
      | inl request ↦ absurd (omega (arith, low, box-least view known id request.box request.here))
      | inr slot ↦
          let its : slot.0 ≡ id - first_identifier = omega (arith, slot.1.identifier) in
          record {
            from = omega (arith, slot.1.identifier);
            below = omega (arith, slot.1.identifier, slot.1.known);
            due = subst (λ s. is_due_slot view.state s ≡ true) its (ready-due view slot.0 slot.1.ready);
          }
    ]

pub offered-first : (view : LiveView) (into id : ℕ) → AreWaiting view.mail → live_offer view into ≡ Some id → least_asynchronous ≤ id
    → IsSome (slice_get (frames_of view.mail id) 0)
offered-first view into id known offered high =
    elim (offers-in_windows view known into id offered) [
      | inl request ↦ ap is_some (first-of view known id request.box request.frame request.here request.first)
      | inr slot ↦ absurd (omega (arith, high, slot.1.identifier, slot.1.known))
    ]
