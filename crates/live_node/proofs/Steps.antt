-- What a node in use does, and what the node of the model does.
use Rattle.std.proofs.Common.{◌≡◌, ℕ, ◌+◌, ◌-◌, ◌%◌, ◌<◌, ◌≤◌, ◌&&◌, ◌==◌, Bool, true, false, cond, is_some, drop, map, List, [], ◌∷◌, ◌++◌, Option, Some, None, ◌⊎◌, inl, inr, refl, sym, ap, ◌∙◌, subst, arith}
use Rattle.std.specs.Prelude.{nat_eq, nat_le, nat_lt, option_map, if◌then◌else◌, IfSome, IsSome}
use Rattle.std.specs.Option.{option_map_or}
use Rattle.std.proofs.lemmas.Bool.{and_parts, and_right, cases_Bool, eq-eqb, eqb-true, false≢true, le-leb, leb-true, lt-leb, lt-ltb, ne_eqb}
use Rattle.std.proofs.lemmas.Bool.Decides.{nat_tests}
use Rattle.profile.specs.Limits.{cycles_end, first_identifier, least_asynchronous}
use Rattle.can_frame.specs.DataFrame.{DataFrame}
use Rattle.trigger_kind.specs.Kind.{opening_identifier, triggers_of}
use Rattle.trigger_codec.specs.declared.message.Trigger.{Trigger}
use Rattle.trigger_codec.specs.Bytes.{trigger_of}
use Rattle.trigger_codec.specs.Heard.{first_heard}
use Rattle.async_window.specs.Adding.{with_request as with_request_put}
use Rattle.async_window.specs.Mailbox.{Mail, without_first as without_first_mail}
use Rattle.node_model.specs.Node.{NodeState, Opened, after_hearing, after_opening, after_request, after_slot, next_trigger, opened_by, opening_trigger, with_heard}
use Rattle.node_model.specs.Online.{after_put, open_now, passed_to}
use Rattle.live_node.specs.Live.{LiveView, Waiting, pushed, with_box, with_request}
use Rattle.live_node.specs.Hearing.{Step, after_step, by_first, caught_up, heard_first, heard_live, heard_of_cycle, is_again, not_taken, said_cycle, step_of, timed, unchanged}
use Rattle.live_node.specs.declared.trigger.Heard.TheVariants.{Again}
use Rattle.live_node.specs.Tickets.{after_sent, with_slot, without_first, without_slot}
use Rattle.live_node.specs.Model.{heard_in, mail_of, model_of, request_of}
use Rattle.live_node.proofs.Clock.{found}
use Rattle.live_node.proofs.Hearing.{heard-is, step-first}

-- requests of the model

map-last : (frames : List DataFrame) (frame : DataFrame) → map request_of (frames ++ frame ∷ []) ≡ map request_of frames ++ request_of frame ∷ []
map-last [] frame = refl
map-last (f ∷ frames) frame = ap (λ xs. request_of f ∷ xs) (map-last frames frame)

map-drop : (frames : List DataFrame) → map request_of (drop 1 frames) ≡ drop 1 (map request_of frames)
map-drop [] = refl
map-drop (f ∷ frames) = refl

put-mail : (frame : DataFrame) (mail : List Waiting)
    → map mail_of (with_box frame.identifier (pushed frame) mail) ≡ map (with_request_put (request_of frame)) (map mail_of mail)
put-mail frame [] = refl
put-mail frame (box ∷ mail) =
    ap (λ xs. mail_of (cond (box.identifier == frame.identifier) (pushed frame box) box) ∷ xs) (put-mail frame mail)
    ∙ ap (λ b. b ∷ map (with_request_put (request_of frame)) (map mail_of mail)) (one (box.identifier == frame.identifier))
  where
    one : (b : Bool) → mail_of (cond b (pushed frame box) box)
        ≡ cond b (record (mail_of box) { unsent = map request_of box.frames ++ request_of frame ∷ [] }) (mail_of box)
    one true = ap (λ xs. record (mail_of box) { unsent = xs }) (map-last box.frames frame)
    one false = refl

sent-mail : (id : ℕ) (mail : List Waiting) → map mail_of (with_box id without_first mail) ≡ without_first_mail id (map mail_of mail)
sent-mail id [] = refl
sent-mail id (box ∷ mail) =
    ap (λ xs. mail_of (cond (box.identifier == id) (without_first box) box) ∷ xs) (sent-mail id mail)
    ∙ ap (λ b. b ∷ without_first_mail id (map mail_of mail)) (one (box.identifier == id))
  where
    one : (b : Bool) → mail_of (cond b (without_first box) box)
        ≡ cond b (record (mail_of box) { unsent = drop 1 (map request_of box.frames) }) (mail_of box)
    one true = ap (λ xs. record (mail_of box) { unsent = xs }) (map-drop box.frames)
    one false = refl

pub put-alike : (frame : DataFrame) (view : LiveView) → model_of (with_request frame view) ≡ after_put (request_of frame) (model_of view)
put-alike frame view = ap (λ mail. record (model_of view) { mail = mail }) (put-mail frame view.mail)

abbrev sent_as : LiveView → ℕ → Bool → LiveView
sent_as view id b =
    if b then record view { mail = with_box id without_first view.mail }
    else record view { sent = with_slot (id - first_identifier) view.sent; loaded = without_slot (id - first_identifier) view.loaded }

pub request-alike : (view : LiveView) (id : ℕ) → least_asynchronous ≤ id → model_of (after_sent id view) ≡ after_request (model_of view) id
request-alike view id high =
    ap (λ b. model_of (sent_as view id b)) (le-leb least_asynchronous id high)
    ∙ ap (λ mail. record (model_of view) { mail = mail }) (sent-mail id view.mail)

heard-more : (slot sent : ℕ) (o : Option Opened)
    → option_map (heard_in (with_slot slot sent)) o ≡ option_map (with_heard slot) (option_map (heard_in sent) o)
heard-more slot sent None = refl
heard-more slot sent (Some opened) = refl

pub slot-alike : (view : LiveView) (id : ℕ) → id < least_asynchronous
    → model_of (after_sent id view) ≡ after_slot (model_of view) (id - first_identifier)
slot-alike view id low =
    ap (λ b. model_of (sent_as view id b)) (lt-leb least_asynchronous id low)
    ∙ ap (λ o. record (model_of view) { opened = o }) (heard-more (id - first_identifier) view.sent view.state.opened)

heard-none : (cycle : ℕ) (said : Option Trigger) → heard_in 0 (opened_by cycle said) ≡ opened_by cycle said
heard-none cycle None = refl
heard-none cycle (Some trigger) = refl

pub opening-alike : (view : LiveView) (frame : DataFrame)
    → model_of (record view { state = after_opening view.state frame; sent = 0; loaded = 0 }) ≡ after_opening (model_of view) frame
opening-alike view frame =
    ap (λ o. record (after_opening (model_of view) frame) { opened = Some o }) (heard-none view.state.next (opening_trigger view.state frame))

-- the trigger frame of the next cycle

module _ (view : LiveView) (passed : ℕ) (frame : DataFrame) (trigger : Trigger) (started : view.started ≡ true)
    (first : frame.identifier ≡ 0) (near : passed ≤ view.tolerance) (small : view.tolerance ≤ 127) (few : view.state.next < cycles_end)
    (in_step : IfSome (open_now view.state) (λ o. o.cycle + 1 ≡ view.state.next)) where
  abbrev node : NodeState
  node = view.state

  not-again : (o : Option Opened) → IfSome o (λ x. x.cycle + 1 ≡ node.next) → (low : ℕ) → low ≡ node.next % 256
      → option_map_or (λ x. x.cycle % 256 == low) o false ≡ false
  not-again None none low is = refl
  not-again (Some opened) next low is = ne_eqb (opened.cycle % 256) low (λ same. omega (arith, next, is, same))

  taken : (said : Option Trigger) → first_heard node.layout.window node.next said ≡ Some trigger
      → (said ≡ Some trigger) × (trigger.l ≤ node.layout.window) × (trigger.low ≡ node.next % 256)
  taken None none = absurd (grind arith)
  taken (Some other) some = by_test (nat_le other.l node.layout.window && (other.low == node.next % 256)) refl some
    where
      by_test : (b : Bool) → (nat_le other.l node.layout.window && (other.low == node.next % 256)) ≡ b → (if b then Some other else None) ≡ Some trigger
          → (Some other ≡ Some trigger) × (trigger.l ≤ node.layout.window) × (trigger.low ≡ node.next % 256)
      by_test false fails none = absurd (grind arith)
      by_test true holds same =
          let parts = and_parts (nat_le other.l node.layout.window) (other.low == node.next % 256) holds in
          let fits = leb-true other.l node.layout.window parts.0 in
          let low = eqb-true other.low (node.next % 256) parts.1 in
          (same, grind arith, grind arith)

  pub next-alike : next_trigger node frame ≡ Some trigger → (heard_live passed frame view).state ≡ after_hearing node (timed frame)
  next-alike is =
      let what = taken (trigger_of frame) is in
      let again : is_again node passed view.tolerance trigger.low ≡ false
      = and_right (nat_le passed view.tolerance) (option_map_or (λ x. x.cycle % 256 == trigger.low) (open_now node) false)
      (not-again (open_now node) in_step trigger.low what.2) in
      let cycle : said_cycle node.next passed view.tolerance trigger.low ≡ Some node.next
      = ap (λ low. said_cycle node.next passed view.tolerance low) what.2
      ∙ found node.next passed view.tolerance node.next small (omega arith) (omega arith) (omega (arith, near)) in
      let step : (step_of passed view.tolerance frame node).state ≡ after_hearing node (timed frame)
      = ap (λ (s : Step). s.state) (step-first passed view.tolerance frame node first)
      ∙ ap (λ said. (heard_first passed view.tolerance said frame node).state) what.0
      ∙ ap (λ b. (if b then unchanged Again node else heard_of_cycle (said_cycle node.next passed view.tolerance trigger.low) trigger.l frame node).state) again
      ∙ ap (λ c. (heard_of_cycle c trigger.l frame node).state) cycle
      ∙ ap (λ b. (if b && nat_lt node.next cycles_end
      then record { answer = by_first (triggers_of node.layout.slots); state = after_hearing (caught_up node.next node) (timed frame) }
      else not_taken node).state) (le-leb trigger.l node.layout.window what.1)
      ∙ ap (λ b. (if b then record { answer = by_first (triggers_of node.layout.slots); state = after_hearing (caught_up node.next node) (timed frame) }
      else not_taken node).state) (lt-ltb node.next cycles_end few)
      ∙ ap (λ b. after_hearing (if b then node else passed_to node.next node) (timed frame)) (eq-eqb node.next node.next refl) in
      ap (λ (v : LiveView). v.state) (heard-is view passed frame started) ∙ step
