-- A node in use and the node of the model.
use Rattle.std.proofs.Common.{◌≡◌, ℕ, ◌+◌, ◌-◌, ◌*◌, ◌/◌, ◌<◌, ◌≤◌, ◌&&◌, ◌||◌, zero, suc, Bool, true, false, not, cond, is_some, length, map, filter, All, List, [], ◌∷◌, Option, Some, None, ◌⊎◌, inl, inr, refl, sym, ap, ◌∙◌, subst, arith}
use Rattle.std.specs.Prelude.{nat_eq, nat_le, option_map, if◌then◌else◌}
use Rattle.std.specs.Option.{option_map_or}
use Rattle.std.proofs.Math.Nat.{add-mul, div-eq_of_lt-le}
use Rattle.std.proofs.lemmas.Bool.{cases_Bool, cases_lt, eq-eqb, le-leb, lt-leb, leb-true, leb-false}
use Rattle.std.proofs.lemmas.Bool.Decides.{nat_tests}
use Rattle.profile.specs.Limits.{first_identifier}
use Rattle.stuff_bound.specs.Stuffing.{worst}
use Rattle.can_frame.specs.DataFrame.{DataFrame}
use Rattle.bit_sets.specs.Least.{least_where}
use Rattle.bit_sets.specs.Sets.{has_bit, most_slots}
use Rattle.bit_sets.proofs.Shared.{least_where-same}
use Rattle.cycle_layout.specs.Layout.{CycleLayout, IsLayout, async_open, sync_start, trigger_part}
use Rattle.requirement_table.specs.Table.{instance_in}
use Rattle.async_window.specs.Mailbox.{Mail, least_of, mail_offer, may_start}
use Rattle.node_model.specs.Node.{NodeState, Opened, is_due, node_offer}
use Rattle.node_model.specs.Online.{open_now}
use Rattle.node_model.specs.Window.{due_bytes, is_due_slot}
use Rattle.live_node.specs.Live.{LiveView, Waiting}
use Rattle.live_node.specs.Sending.{ends_by, has_set, is_owed, is_ready, live_offer, may_begin, may_send, offered_in, request_offer, slot_offer}
use Rattle.live_node.specs.Sending.{may_start as may_start_live}
use Rattle.live_node.specs.Model.{IsPlain, heard_in, mail_of, model_of}
use Rattle.live_node.proofs.Windows.{opened-is}

same-tests : (a b c d : ℕ) → (a ≤ b → c ≤ d) → (c ≤ d → a ≤ b) → nat_le a b ≡ nat_le c d
same-tests a b c d to from =
    elim (cases_Bool (nat_le a b)) [
      | inl holds ↦ holds ∙ sym (le-leb c d (to (leb-true a b holds)))
      | inr fails ↦ fails ∙ sym (lt-leb c d (below (cases_lt d c) fails))
    ]
  where
    below : (d < c) ⊎ (c ≤ d) → nat_le a b ≡ false → d < c
    below (inl less) fails = less
    below (inr more) fails = absurd (omega (arith, from more, leb-false a b fails))

-- a slot is to be sent, where all that may keep it back does not
same-slot : (flagged instance heard sent loaded silent set ends : Bool) → heard ≡ false → loaded ≡ false → silent ≡ false
    → ((true && ((flagged && (instance && not heard)) && not sent)) ≡ true → ends ≡ true)
    → (flagged && (instance && not sent))
    ≡ (((true && ((flagged && (instance && not heard)) && not sent)) && (not loaded && (not silent || set))) && ends)
same-slot true true heard true loaded silent set ends no_heard no_loaded loud in_time = grind arith
same-slot true true heard false loaded silent set ends no_heard no_loaded loud in_time = grind arith
same-slot true false heard sent loaded silent set ends no_heard no_loaded loud in_time = grind arith
same-slot false instance heard sent loaded silent set ends no_heard no_loaded loud in_time = grind arith

-- the same identifiers pass, where the same mailboxes do
same-passing : (p : Mail → Bool) (q : Waiting → Bool) (mail : List Waiting) → ((box : Waiting) → box.loaded ≡ false → p (mail_of box) ≡ q box)
    → All (λ box. box.loaded ≡ false) mail
    → map (λ box. box.identifier) (filter p (map mail_of mail)) ≡ map (λ box. box.identifier) (filter q mail)
same-passing p q [] same free = refl
same-passing p q (box ∷ mail) same free =
    let rest = same-passing p q mail same (λ k d within. free (suc k) d (omega (arith, within))) in
    ap (λ b. map (λ x. x.identifier) (cond b (mail_of box ∷ filter p (map mail_of mail)) (filter p (map mail_of mail))))
    (same box (free 0 box (omega arith)))
    ∙ by_test (q box) rest
  where
    by_test : (b : Bool) → map (λ x. x.identifier) (filter p (map mail_of mail)) ≡ map (λ x. x.identifier) (filter q mail)
        → map (λ x. x.identifier) (cond b (mail_of box ∷ filter p (map mail_of mail)) (filter p (map mail_of mail)))
        ≡ map (λ x. x.identifier) (cond b (box ∷ filter q mail) (filter q mail))
    by_test true is = ap (λ xs. box.identifier ∷ xs) is
    by_test false is = is

module _ (layout : CycleLayout) (c l into : ℕ) (is : IsLayout layout) (fits : l ≤ layout.window) (within : into < layout.cycle) where
  abbrev at : ℕ
  at = c * layout.cycle + into

  next-start : (c + 1) * layout.cycle ≡ c * layout.cycle + layout.cycle
  next-start = omega (arith, add-mul c 1 layout.cycle)

  wide : l ≤ layout.cycle
  wide = omega (arith, fits, is.room)

  pub in-cycle : at / layout.cycle ≡ c
  in-cycle = grind (arith, div-eq_of_lt-le, next-start)

  pub same-window : nat_le (sync_start layout c l) at ≡ nat_le (layout.cycle - l) into
  same-window =
      same-tests (sync_start layout c l) at (layout.cycle - l) into
      (λ late. omega (arith, late, next-start, wide)) (λ late. omega (arith, late, next-start, wide))

  same-frames : (frames : List DataFrame)
      → may_start layout (at / layout.cycle) l at (mail_of (record { identifier = 0; frames = frames; room = 0; first = 0; loaded = false })).unsent
      ≡ (true && may_begin layout l into frames)
  same-frames [] = refl
  same-frames (frame ∷ later) =
      let whole : nat_le (at + worst (length frame.bytes)) (sync_start layout c l) ≡ nat_le (into + worst (length frame.bytes)) (layout.cycle - l)
      = same-tests (at + worst (length frame.bytes)) (sync_start layout c l) (into + worst (length frame.bytes)) (layout.cycle - l)
      (λ early. omega (arith, early, next-start, wide)) (λ early. omega (arith, early, next-start, wide)) in
      let begun : nat_le (async_open layout c) at ≡ nat_le (trigger_part layout + layout.turnaround) into
      = same-tests (async_open layout c) at (trigger_part layout + layout.turnaround) into
      (λ early. omega (arith, early)) (λ early. omega (arith, early)) in
      ap (λ n. nat_le 0 at && (nat_le (async_open layout n) at && nat_le (at + worst (length frame.bytes)) (sync_start layout n l))) in-cycle
      ∙ ap (λ b. b && (nat_le (async_open layout c) at && nat_le (at + worst (length frame.bytes)) (sync_start layout c l))) (le-leb 0 at (omega arith))
      ∙ ap (λ b. b && nat_le (at + worst (length frame.bytes)) (sync_start layout c l)) begun
      ∙ ap (λ b. nat_le (trigger_part layout + layout.turnaround) into && b) whole

  same-box : (box : Waiting) → box.loaded ≡ false
      → may_start layout (at / layout.cycle) l at (mail_of box).unsent ≡ may_start_live layout l into box
  same-box box free = same-frames box.frames ∙ ap (λ b. not b && may_begin layout l into box.frames) (sym free)

  pub same-requests : (mail : List Waiting) → All (λ box. box.loaded ≡ false) mail
      → mail_offer layout l (map mail_of mail) at ≡ request_offer layout l into mail
  same-requests mail free =
      ap least_of (same-passing (λ box. may_start layout (at / layout.cycle) l at box.unsent) (may_start_live layout l into) mail same-box free)

module _ (view : LiveView) (into : ℕ) (opened : Opened) (is_open : open_now view.state ≡ Some opened) (layout : IsLayout view.state.layout)
    (fits : opened.width ≤ view.state.layout.window) (within : into < view.state.layout.cycle) (plain : IsPlain view opened into) where
  abbrev time : ℕ
  time = opened.cycle * view.state.layout.cycle + into

  abbrev model : NodeState
  model = record view.state { mail = map mail_of view.mail; opened = Some (heard_in view.sent opened) }

  model-is : model_of view ≡ model
  model-is =
      ap (λ o. record view.state { mail = map mail_of view.mail; opened = option_map (heard_in view.sent) o })
      (opened-is view.state opened is_open)

  due-is : (slot : ℕ) → is_due_slot view.state slot ≡ is_due view.state.entries opened slot
  due-is slot = ap (λ o. option_map_or (λ x. is_due view.state.entries x slot) o false) (opened-is view.state opened is_open)

  owed-is : (slot : ℕ) → is_owed view slot ≡ (true && (is_due view.state.entries opened slot && not (has_bit view.sent slot)))
  owed-is slot =
      ap (λ o. is_some o && (is_due_slot view.state slot && not (has_bit view.sent slot))) is_open
      ∙ ap (λ b. true && (b && not (has_bit view.sent slot))) (due-is slot)

  one-slot : view.state.layout.cycle - opened.width ≤ into → (slot : ℕ) → slot < most_slots
      → is_due view.state.entries (heard_in view.sent opened) slot ≡ may_send view into slot
  one-slot late slot below =
      let ends : Bool = ends_by view.state.layout.cycle (length (due_bytes view.state slot)) into in
      let rest : Bool = not (has_bit view.loaded slot) && (not view.silent || has_set view slot) in
      same-slot (has_bit opened.mask slot) (is_some (instance_in view.state.entries slot opened.cycle)) (has_bit opened.heard slot)
      (has_bit view.sent slot) (has_bit view.loaded slot) view.silent (has_set view slot) ends (plain.unheard slot) (plain.free slot) plain.loud
      (λ owed. le-leb (into + worst (length (due_bytes view.state slot))) view.state.layout.cycle (plain.in_time slot below (owed-is slot ∙ owed) late))
      ∙ ap (λ b. (b && rest) && ends) (sym (owed-is slot))

  pub offers-alike : live_offer view into ≡ node_offer (model_of view) time
  offers-alike =
      let l : ℕ = opened.width in
      let due : Option ℕ = option_map (λ slot. first_identifier + slot) (least_where most_slots (is_due view.state.entries (heard_in view.sent opened))) in
      let mail : Option ℕ = mail_offer view.state.layout l (map mail_of view.mail) time in
      let there : node_offer model time ≡ (if nat_le (view.state.layout.cycle - l) into then due else mail)
      = ap (λ b. if b then (if nat_le (sync_start view.state.layout opened.cycle l) time then due else mail) else None)
      (eq-eqb (time / view.state.layout.cycle) opened.cycle (in-cycle view.state.layout opened.cycle l into layout fits within))
      ∙ ap (λ b. if b then due else mail) (same-window view.state.layout opened.cycle l into layout fits within) in
      let here : live_offer view into ≡ (if nat_le (view.state.layout.cycle - l) into then slot_offer view into
      else request_offer view.state.layout l into view.mail) = ap (offered_in view into) is_open in
      elim (cases_lt into (view.state.layout.cycle - l)) [
        | inl before ↦
            let test = lt-leb (view.state.layout.cycle - l) into before in
            here ∙ ap (λ b. if b then slot_offer view into else request_offer view.state.layout l into view.mail) test
            ∙ sym (same-requests view.state.layout opened.cycle l into layout fits within view.mail plain.still)
            ∙ sym (ap (λ b. if b then due else mail) test) ∙ sym there ∙ ap (λ n. node_offer n time) (sym model-is)
        | inr behind ↦
            let test = le-leb (view.state.layout.cycle - l) into behind in
            here ∙ ap (λ b. if b then slot_offer view into else request_offer view.state.layout l into view.mail) test
            ∙ ap (option_map (λ slot. first_identifier + slot))
            (sym (least_where-same most_slots (is_due view.state.entries (heard_in view.sent opened)) (may_send view into) (one-slot behind)))
            ∙ sym (ap (λ b. if b then due else mail) test) ∙ sym there ∙ ap (λ n. node_offer n time) (sym model-is)
      ]
