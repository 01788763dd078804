-- When something is offered next.
use Rattle.std.proofs.Common.{◌≡◌, ℕ, ◌+◌, ◌-◌, ◌<◌, ◌≤◌, Bool, true, false, is_some, max, length, Option, Some, None, ◌⊎◌, inl, inr, refl, sym, ap, ◌∙◌, subst, arith}
use Rattle.std.specs.Prelude.{option_map, IsSome, MatchOption}
use Rattle.std.proofs.lemmas.Bool.{cases_lt, false≢true}
use Rattle.stuff_bound.specs.Stuffing.{worst}
use Rattle.profile.specs.Limits.{first_identifier}
use Rattle.bit_sets.specs.Least.{least_where}
use Rattle.bit_sets.specs.Sets.{most_slots}
use Rattle.bit_sets.proofs.Shared.{IsLeastBelow, least_where-least}
use Rattle.cycle_layout.specs.Layout.{trigger_part}
use Rattle.async_window.specs.Mailbox.{IsLeastWith}
use Rattle.node_model.specs.Node.{Opened}
use Rattle.node_model.specs.Online.{open_now}
use Rattle.live_node.specs.Live.{AreWaiting, LiveView, box_of}
use Rattle.live_node.specs.Sending.{live_offer, may_send, may_start, request_offer, slot_offer}
use Rattle.live_node.proofs.Offered.{before-window, in-window, offers-in_windows}
use Rattle.live_node.proofs.Quiet.{late-quiet}
use Rattle.live_node.proofs.Requests.{Passes, least-passing, starts-again}
use Rattle.live_node.proofs.Slots.{slot-ready}

some-of : (o : Option ℕ) → IsSome o → (id : ℕ) × (o ≡ Some id)
some-of None none = absurd (false≢true none)
some-of (Some id) some = (id, refl)

abbrev pub OffersLater : LiveView → ℕ → ℕ → Type 0
OffersLater view into later = (into < later) × IsSome (live_offer view later)

module _ (view : LiveView) (known : AreWaiting view.mail) (opened : Opened) (is : open_now view.state ≡ Some opened)
    (room : trigger_part view.state.layout + view.state.layout.turnaround + opened.width ≤ view.state.layout.cycle) where
  abbrev begins : ℕ
  begins = trigger_part view.state.layout + view.state.layout.turnaround

  abbrev window : ℕ
  window = view.state.layout.cycle - opened.width

  -- the open cycle is one
  same-open : (other : Opened) → open_now view.state ≡ Some other → other.width ≡ opened.width
  same-open other also = width (sym also ∙ is)
    where
      width : {o p : Opened} → Some o ≡ Some p → o.width ≡ p.width
      width same = grind arith

  -- nothing is offered before the asynchronous window
  not-before : (later : ℕ) → IsSome (live_offer view later) → begins ≤ later
  not-before later some =
      let at = some-of (live_offer view later) some in
      elim (offers-in_windows view known later at.0 at.1) [
        | inl request ↦ request.begun
        | inr slot ↦ omega (arith, slot.1.begun, room, same-open slot.1.opened slot.1.is_open)
      ]

  pub wakes-first : (into first : ℕ) → first ≡ max begins (into + 1) → IsSome (live_offer view first)
      → IsLeastWith (OffersLater view into) (Some first)
  wakes-first into first at some =
      ((omega (arith, at), some), λ later has. omega (arith, at, has.0, not-before later has.1))

  -- what is offered in a window is offered earlier in it
  request-earlier : (early later id : ℕ) → begins ≤ early → early ≤ later → later < window
      → request_offer view.state.layout opened.width later view.mail ≡ Some id
      → IsSome (request_offer view.state.layout opened.width early view.mail)
  request-earlier early later id begun before within offered =
      some-least (request_offer view.state.layout opened.width early view.mail)
      (least-passing (may_start view.state.layout opened.width early) view.mail known.distinct)
      (starts-again view.state.layout opened.width view.mail known.distinct early later id begun before offered)
    where
      some-least : (o : Option ℕ) → IsLeastWith (Passes (may_start view.state.layout opened.width early) view.mail) o
          → Passes (may_start view.state.layout opened.width early) view.mail id → IsSome o
      some-least None none passes = absurd (none id passes)
      some-least (Some n) some passes = refl

  slot-earlier : (early later : ℕ) → early ≤ later → IsSome (slot_offer view later) → IsSome (slot_offer view early)
  slot-earlier early later before some =
      by_least (least_where most_slots (may_send view later)) (least_where-least most_slots (may_send view later)) some
    where
      none-or : (o : Option ℕ) (slot : ℕ) → IsLeastBelow most_slots (may_send view early) o → slot < most_slots → may_send view early slot ≡ true
          → IsSome (option_map (λ s. first_identifier + s) o)
      none-or None slot none within may = absurd (false≢true (sym (none slot within) ∙ may))
      none-or (Some s) slot some within may = refl

      by_least : (o : Option ℕ) → IsLeastBelow most_slots (may_send view later) o → IsSome (option_map (λ s. first_identifier + s) o)
          → IsSome (slot_offer view early)
      by_least None none found = absurd (false≢true found)
      by_least (Some slot) least found =
          none-or (least_where most_slots (may_send view early)) slot (least_where-least most_slots (may_send view early)) least.0
          (slot-ready view early later slot before least.1)

  -- with nothing at the first time, the next one is in the synchronous window
  not-first : (into first later : ℕ) → first ≡ max begins (into + 1) → live_offer view first ≡ None → into < later
      → IsSome (live_offer view later) → window ≤ later
  not-first into first later at none after some =
      elim (cases_lt later window) [
        | inr behind ↦ behind
        | inl before ↦
            let begun = not-before later some in
            let early : first ≤ later = omega (arith, at, after, begun) in
            let there = some-of (live_offer view later) some in
            let still = request-earlier first later there.0 (omega (arith, at)) early before (sym (before-window view known later opened is before) ∙ there.1) in
            absurd (false≢true (sym (ap is_some (sym (before-window view known first opened is (omega (arith, early, before))) ∙ none)) ∙ still))
      ]

  pub wakes-second : (into first second : ℕ) (result : Option ℕ) → first ≡ max begins (into + 1) → live_offer view first ≡ None
      → second ≡ max window (into + 1)
      → MatchOption result (live_offer view second ≡ None) (λ time. (time ≡ second) × IsSome (live_offer view second))
      → IsLeastWith (OffersLater view into) result
  wakes-second into first second (Some time) at none also is_next = (
    (omega (arith, also, is_next.0), subst (λ t. IsSome (live_offer view t)) (sym is_next.0) is_next.1),
    λ later has. omega (arith, also, is_next.0, has.0, not-first into first later at none has.0 has.1),
  )
  wakes-second into first second None at none also nothing =
      λ later has.
      let behind = not-first into first later at none has.0 has.1 in
      let here : IsSome (slot_offer view later) = subst IsSome (in-window view known later opened is behind) has.1 in
      let early = slot-earlier second later (omega (arith, also, behind, has.0)) here in
      false≢true (sym (ap is_some (sym (in-window view known second opened is (omega (arith, also))) ∙ nothing)) ∙ early)

pub wakes-closed : (view : LiveView) (into : ℕ) → ((later : ℕ) → live_offer view later ≡ None) → IsLeastWith (OffersLater view into) None
wakes-closed view into quiet = λ later has. false≢true (sym (ap is_some (quiet later)) ∙ has.1)

pub wakes-late : (view : LiveView) (into : ℕ) → AreWaiting view.mail → view.state.layout.cycle ≤ into
    → IsLeastWith (OffersLater view into) None
wakes-late view into known late =
    λ later has. false≢true (sym (ap is_some (late-quiet view later known (omega (arith, late, has.0)))) ∙ has.1)
