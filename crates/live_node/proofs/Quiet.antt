-- Behind the end of its cycle a node offers nothing.
use Rattle.std.proofs.Common.{◌≡◌, ℕ, ◌+◌, ◌-◌, ◌≤◌, Option, Some, None, ◌⊎◌, inl, inr, refl, arith}
use Rattle.live_node.specs.Live.{AreWaiting, LiveView}
use Rattle.live_node.specs.Sending.{live_offer}
use Rattle.live_node.proofs.Offered.{offers-in_windows}

none-of : (o : Option ℕ) → ((id : ℕ) → o ≡ Some id → ⊥) → o ≡ None
none-of None never = refl
none-of (Some id) never = absurd (never id refl)

pub late-quiet : (view : LiveView) (into : ℕ) → AreWaiting view.mail → view.state.layout.cycle ≤ into → live_offer view into ≡ None
late-quiet view into known late =
    none-of (live_offer view into) (λ id offered. elim (offers-in_windows view known into id offered) [
      | inl request ↦ omega (arith, request.whole)
      | inr slot ↦ omega (arith, slot.1.whole)
    ])
