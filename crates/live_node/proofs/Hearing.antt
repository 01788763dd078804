-- Trigger frames that come again, and ones that are not taken.
use Rattle.std.proofs.Common.{◌≡◌, ℕ, ◌%◌, ◌≤◌, ◌&&◌, ◌==◌, Bool, true, false, Option, Some, None, refl, sym, ap, ◌∙◌, arith}
use Rattle.std.specs.Prelude.{nat_eq, nat_le, nat_lt, if◌then◌else◌, is_some}
use Rattle.std.specs.Option.{option_map_or}
use Rattle.std.proofs.lemmas.Bool.{and_from, eq-eqb, le-leb}
use Rattle.std.proofs.lemmas.Bool.Decides.{nat_tests}
use Rattle.can_frame.specs.DataFrame.{DataFrame}
use Rattle.profile.specs.Limits.{cycles_end}
use Rattle.trigger_kind.specs.Kind.{opening_identifier, triggers_of}
use Rattle.trigger_kind.specs.declared.Triggers.{Triggers}
use Rattle.trigger_kind.specs.declared.Triggers.TheVariants.{One, Two}
use Rattle.trigger_codec.specs.declared.message.Second.{Second}
use Rattle.trigger_codec.specs.declared.message.Trigger.{Trigger}
use Rattle.trigger_codec.specs.Bytes.{second_of, trigger_of}
use Rattle.node_model.specs.Node.{NodeState, Opened, after_hearing, opening_trigger}
use Rattle.node_model.specs.Online.{open_now}
use Rattle.live_node.specs.declared.trigger.Heard.{Heard}
use Rattle.live_node.specs.declared.trigger.Heard.TheVariants.{Opened as HeardOpened, Noted, Again, NotTaken, Other}
use Rattle.live_node.specs.Live.{LiveView}
use Rattle.live_node.specs.Hearing.{Step, after_step, answer_live, by_first, caught_up, closed, heard_first, heard_live, heard_of_cycle, heard_second, is_again, not_taken, said_cycle, step_of, timed, unchanged}
use Rattle.live_node.specs.Sending.{live_offer, offered_in}

again-true : (node : NodeState) (passed tolerance low : ℕ) (opened : Opened) → open_now node ≡ Some opened → passed ≤ tolerance
    → low ≡ opened.cycle % 256 → is_again node passed tolerance low ≡ true
again-true node passed tolerance low opened is near same =
    and_from (nat_le passed tolerance) (option_map_or (λ o. o.cycle % 256 == low) (open_now node) false) (le-leb passed tolerance near)
    (ap (λ o. option_map_or (λ x. x.cycle % 256 == low) o false) is ∙ eq-eqb (opened.cycle % 256) low (sym same))

module _ (passed tolerance : ℕ) (frame : DataFrame) (node : NodeState) where
  abbrev by_identifier : Bool → Bool → Step
  by_identifier behind first =
      if behind then unchanged Other node
      else (if first then heard_first passed tolerance (trigger_of frame) frame node
      else heard_second passed tolerance (second_of frame) frame node)

  pub step-first : frame.identifier ≡ 0 → step_of passed tolerance frame node ≡ heard_first passed tolerance (trigger_of frame) frame node
  step-first is =
      let low : nat_lt (opening_identifier node.layout.slots) frame.identifier ≡ false = grind (arith, nat_tests) in
      let zero_is : nat_eq frame.identifier 0 ≡ true = grind (arith, nat_tests) in
      ap (λ b. by_identifier b (nat_eq frame.identifier 0)) low ∙ ap (λ b. by_identifier false b) zero_is

  step-second : frame.identifier ≡ 1 → opening_identifier node.layout.slots ≡ 1
      → step_of passed tolerance frame node ≡ heard_second passed tolerance (second_of frame) frame node
  step-second is two =
      let low : nat_lt (opening_identifier node.layout.slots) frame.identifier ≡ false = grind (arith, nat_tests) in
      let other : nat_eq frame.identifier 0 ≡ false = grind (arith, nat_tests) in
      ap (λ b. by_identifier b (nat_eq frame.identifier 0)) low ∙ ap (λ b. by_identifier false b) other

  again-first : (trigger : Trigger) (opened : Opened) → frame.identifier ≡ 0 → trigger_of frame ≡ Some trigger → open_now node ≡ Some opened
      → passed ≤ tolerance → trigger.low ≡ opened.cycle % 256 → step_of passed tolerance frame node ≡ unchanged Again node
  again-first trigger opened is said is_open near same =
      step-first is ∙ ap (λ t. heard_first passed tolerance t frame node) said
      ∙ ap (λ b. if b then unchanged Again node else heard_of_cycle (said_cycle node.next passed tolerance trigger.low) trigger.l frame node)
      (again-true node passed tolerance trigger.low opened is_open near same)

  again-second : (second : Second) (opened : Opened) → frame.identifier ≡ 1 → opening_identifier node.layout.slots ≡ 1
      → second_of frame ≡ Some second → open_now node ≡ Some opened → passed ≤ tolerance → second.low ≡ opened.cycle % 256
      → step_of passed tolerance frame node ≡ unchanged Again node
  again-second second opened is two said is_open near same =
      step-second is two ∙ ap (λ t. heard_second passed tolerance t frame node) said
      ∙ ap (λ b. if b then unchanged Again node
      else (if is_some (opening_trigger node frame) && nat_lt node.next cycles_end
      then record { answer = HeardOpened; state = after_hearing node (timed frame) } else not_taken node))
      (again-true node passed tolerance second.low opened is_open near same)

  -- a step that is not taken leaves no cycle open
  abbrev Closes : Step → Type 0
  Closes step = step.answer ≡ NotTaken → step.state ≡ closed node

  closes-either : (b : Bool) (x y : Step) → Closes x → Closes y → Closes (if b then x else y)
  closes-either true x y one other = one
  closes-either false x y one other = other

  closes-taken : (triggers : Triggers) (state : NodeState) → Closes (record { answer = by_first triggers; state = state })
  closes-taken One state wrong = absurd (grind arith)
  closes-taken Two state wrong = absurd (grind arith)

  closes-of_cycle : (cycle : Option ℕ) (l : ℕ) → Closes (heard_of_cycle cycle l frame node)
  closes-of_cycle None l = λ is. refl
  closes-of_cycle (Some cycle) l =
      closes-either (nat_le l node.layout.window && nat_lt cycle cycles_end)
      (record { answer = by_first (triggers_of node.layout.slots); state = after_hearing (caught_up cycle node) (timed frame) })
      (not_taken node) (closes-taken (triggers_of node.layout.slots) (after_hearing (caught_up cycle node) (timed frame))) (λ is. refl)

  closes-first : (said : Option Trigger) → Closes (heard_first passed tolerance said frame node)
  closes-first None = λ is. refl
  closes-first (Some trigger) =
      closes-either (is_again node passed tolerance trigger.low) (unchanged Again node)
      (heard_of_cycle (said_cycle node.next passed tolerance trigger.low) trigger.l frame node)
      (λ wrong. absurd (grind arith)) (closes-of_cycle (said_cycle node.next passed tolerance trigger.low) trigger.l)

  closes-second : (said : Option Second) → Closes (heard_second passed tolerance said frame node)
  closes-second None = λ is. refl
  closes-second (Some second) =
      closes-either (is_again node passed tolerance second.low) (unchanged Again node)
      (if is_some (opening_trigger node frame) && nat_lt node.next cycles_end
      then record { answer = HeardOpened; state = after_hearing node (timed frame) } else not_taken node)
      (λ wrong. absurd (grind arith))
      (closes-either (is_some (opening_trigger node frame) && nat_lt node.next cycles_end)
      (record { answer = HeardOpened; state = after_hearing node (timed frame) }) (not_taken node)
      (λ wrong. absurd (grind arith)) (λ is. refl))

  pub closes-step : Closes (step_of passed tolerance frame node)
  closes-step =
      closes-either (nat_lt (opening_identifier node.layout.slots) frame.identifier) (unchanged Other node)
      (if nat_eq frame.identifier 0 then heard_first passed tolerance (trigger_of frame) frame node
      else heard_second passed tolerance (second_of frame) frame node)
      (λ wrong. absurd (grind arith))
      (closes-either (nat_eq frame.identifier 0) (heard_first passed tolerance (trigger_of frame) frame node)
      (heard_second passed tolerance (second_of frame) frame node) (closes-first (trigger_of frame)) (closes-second (second_of frame)))

module _ (view : LiveView) (passed : ℕ) (frame : DataFrame) (started : view.started ≡ true) where
  abbrev step : Step
  step = step_of passed view.tolerance frame view.state

  pub heard-is : heard_live passed frame view ≡ after_step step view
  heard-is = ap (λ b. if b then after_step step view else view) started

  answer-is : answer_live passed frame view ≡ step.answer
  answer-is = ap (λ b. if b then step.answer else NotTaken) started

  unchanged-heard : step ≡ unchanged Again view.state → (heard_live passed frame view ≡ view) × (answer_live passed frame view ≡ Again)
  unchanged-heard same = (heard-is ∙ ap (λ s. after_step s view) same, answer-is ∙ ap (λ (s : Step). s.answer) same)

  pub first-again : (trigger : Trigger) (opened : Opened) → frame.identifier ≡ 0 → trigger_of frame ≡ Some trigger
      → open_now view.state ≡ Some opened → passed ≤ view.tolerance → trigger.low ≡ opened.cycle % 256
      → (heard_live passed frame view ≡ view) × (answer_live passed frame view ≡ Again)
  first-again trigger opened is said is_open near same =
      unchanged-heard (again-first passed view.tolerance frame view.state trigger opened is said is_open near same)

  pub second-again : (second : Second) (opened : Opened) → frame.identifier ≡ 1 → opening_identifier view.state.layout.slots ≡ 1
      → second_of frame ≡ Some second → open_now view.state ≡ Some opened → passed ≤ view.tolerance → second.low ≡ opened.cycle % 256
      → (heard_live passed frame view ≡ view) × (answer_live passed frame view ≡ Again)
  second-again second opened is two said is_open near same =
      unchanged-heard (again-second passed view.tolerance frame view.state second opened is two said is_open near same)

  pub not_taken-quiet : (into : ℕ) → answer_live passed frame view ≡ NotTaken → live_offer (heard_live passed frame view) into ≡ None
  not_taken-quiet into answer =
      let state : step.state ≡ closed view.state = closes-step passed view.tolerance frame view.state (sym answer-is ∙ answer) in
      let none : open_now step.state ≡ None = ap open_now state in
      ap (λ v. live_offer v into) heard-is ∙ ap (offered_in (after_step step view) into) none
