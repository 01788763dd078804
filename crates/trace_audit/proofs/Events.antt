-- An event is determined by the row that asks for it, the events before it and the steps.
use Rattle.std.proofs.Common.{◌≡◌, ◌+◌, ◌<◌, ◌≤◌, ◌++◌, ℕ, Bool, true, false, List, [], ◌∷◌, All, Option, None, Some, drop, map, refl, sym, ap, ◌∙◌, subst, arith}
use Rattle.std.specs.Prelude.{count_by, slice_get, sum_by}
use Rattle.std.proofs.lemmas.List.Elements.{All-cons, All-nil}
use Rattle.std.proofs.lemmas.Option.{same_Some}
use Rattle.can_frame.specs.declared.data_frame.TimedFrame.{TimedFrame}
use Rattle.change_protocol.specs.declared.operations.Act.{Act}
use Rattle.change_protocol.specs.declared.operations.Act.TheVariants as act
use Rattle.change_protocol.specs.declared.operations.Change.{Change}
use Rattle.planner_policies.specs.Plan.{mask_at}
use Rattle.admission_rules.specs.declared.Rules.{Rules}
use Rattle.admission.specs.declared.verdict.Verdict.{Verdict}
use Rattle.master_core.specs.declared.event.Event.{Event}
use Rattle.master_core.specs.declared.event.Event.TheVariants.{Submit, Look, Open}
use Rattle.master_core.specs.History.{IsRight, IsRightAnswer, next_of, placed_of, plan_of}
use Rattle.master_core.proofs.Shared.{OneVerdict, same-answer}
use Rattle.steps_file.specs.StepsFile.{count_of}
use Rattle.steps_file.specs.declared.steps.Step.{Step}
use Rattle.kept_run.proofs.Shared.{next_of-push}
use Rattle.live_master.specs.Callers.{is_called_by}
use Rattle.live_steps.specs.Live.{acts_of}
use Rattle.bus_trace.specs.EventRows.{told_at}
use Rattle.bus_trace.specs.LogRows.{plan_told, verdict_told}
use Rattle.log_reader.specs.Row.{opened_row}
use Rattle.log_reader.specs.declared.row.LogRow.{LogRow}
use Rattle.log_reader.specs.declared.row.LogRow.TheVariants as row
use Rattle.log_reader.specs.declared.row.OpenRow.{OpenRow}
use Rattle.log_reader.specs.declared.row.LogVerdict.{LogVerdict}
use Rattle.trace_audit.specs.Again.{Asks}
use Rattle.trace_audit.specs.Auditing.{is_inner}
use Rattle.trace_audit.specs.Reading.{IsNextAct, IsReadFrom, is_event_row}

same-change : (asked : Option Act) (change also : Change) → asked ≡ Some (act.Ask change) → asked ≡ Some (act.Ask also) → change ≡ also
same-change asked change also one other = cc

-- The event that is read from a row

module _ (rules : Rules) (steps : List Step) (before : List Event) where
  -- it is one that the row asks for, where an opening is one of those that the steps ask for
  pub read-asks : (line : LogRow) (event : Event) → IsReadFrom rules steps before line event
      → next_of (before ++ event ∷ []) ≤ sum_by count_of steps → Asks steps before line event
  read-asks line (Submit caller change from verdict trail) read few = grind arith
  read-asks line (Look caller next) read few = subst (λ l. Asks steps before l (Look caller next)) (sym read.0) (refl, read.1)
  read-asks line (Open cycle mask) read few = grind (arith, next_of-push)

  module _ (verdicts : OneVerdict) where
    same-as_opening : (cycle mask : ℕ) (opened : OpenRow) (one : Event) → IsRight rules before (Open cycle mask)
        → Asks steps before (opened_row opened) one → IsRight rules before one → Open cycle mask ≡ one
    same-as_opening cycle mask opened one right asks right2 = grind arith

    -- there is one right event that a row asks for: what is read from the row is that event
    pub same-event : (line : LogRow) (one other : Event) → Asks steps before line one → IsRight rules before one
        → IsReadFrom rules steps before line other → IsRight rules before other → other ≡ one
    same-event line one (Submit caller change from verdict trail) asks right read right2 = grind arith
    same-event line one (Look caller next) asks right read right2 = grind arith
    same-event line one (Open cycle mask) asks right read right2 = grind (arith, same-as_opening)

  -- the first row of an opened cycle
  opened-first : (cycle mask width : ℕ) (frames : List TimedFrame) (line : LogRow)
      → slice_get (told_at width (Open cycle mask) frames) 0 ≡ Some line → IsReadFrom rules steps before line (Open cycle mask)
  opened-first cycle mask width frames line first = (_, sym (same_Some _ line first), refl, refl)

  -- a right event that the row asks for, and whose first row is the row, is read from it
  pub asked-read : (line : LogRow) (event : Event) (width : ℕ) (frames : List TimedFrame) → Asks steps before line event
      → IsRight rules before event → slice_get (told_at width event frames) 0 ≡ Some line → IsReadFrom rules steps before line event
  asked-read line (Submit caller change from verdict trail) width frames asks right first = grind arith
  asked-read line (Look caller next) width frames asks right first = grind arith
  asked-read line (Open cycle mask) width frames asks right first = opened-first cycle mask width frames line first

-- The rows of an event

abbrev pub AreInner : List LogRow → Type 0
AreInner rows = All (λ line. is_inner line ≡ true) rows

-- first the row of an event, and behind it those that follow
pub record HasHead (rows : List LogRow) : Type 0 where
  pub head : LogRow
  pub rest : List LogRow
  pub are : rows ≡ head ∷ rest
  pub inner : AreInner rest

pub inner-plan : (cycle : ℕ) (masks : List ℕ) → AreInner (plan_told cycle masks)
inner-plan cycle [] = All-nil (λ line. is_inner line ≡ true)
inner-plan cycle (mask ∷ later) =
    All-cons (λ line. is_inner line ≡ true) (row.Plan cycle mask) (plan_told (cycle + 1) later) refl (inner-plan (cycle + 1) later)

pub inner-frames : (frames : List TimedFrame) → AreInner (map row.Frame frames)
inner-frames [] = All-nil (λ line. is_inner line ≡ true)
inner-frames (sent ∷ later) =
    All-cons (λ line. is_inner line ≡ true) (row.Frame sent) (map row.Frame later) refl (inner-frames later)

pub told-head : (width : ℕ) (event : Event) (frames : List TimedFrame) → HasHead (told_at width event frames)
told-head width event frames = grind (arith, inner-plan, inner-frames)

-- what follows the first row of an event
pub told-later : (width : ℕ) (event : Event) (frames : List TimedFrame) (line : LogRow) (later : List LogRow)
    → told_at width event frames ≡ line ∷ later → AreInner later
told-later width event frames line later are =
    let head = told-head width event frames in
    grind arith

-- The row that asks for a change or a look has its operator, whose next act this is.

asks-opening : (steps : List Step) (before : List Event) (line : LogRow) (cycle mask : ℕ)
    → Asks steps before line (Open cycle mask) → next_of before < sum_by count_of steps
asks-opening steps before line cycle mask asks = grind arith

-- an event that some row asks for is one that its own first row asks for
pub own-asks : (steps : List Step) (before : List Event) (asked : LogRow) (event : Event) (width : ℕ) (frames : List TimedFrame)
    (line : LogRow) → Asks steps before asked event → slice_get (told_at width event frames) 0 ≡ Some line → Asks steps before line event
own-asks steps before asked event width frames line asks first = grind (arith, same_Some, asks-opening)

-- such a row is not that of an event, nor the last one of a log
pub inner-no_event : (line : LogRow) → is_inner line ≡ true → is_event_row line ≡ false
inner-no_event line is = grind arith

-- whether an act, where there is one, is a change
abbrev pub is_ask : Option Act → Bool
is_ask None = false
is_ask (Some act.Look) = false
is_ask (Some (act.Ask change)) = true

-- whether it is a look
abbrev pub is_look : Option Act → Bool
is_look None = false
is_look (Some act.Look) = true
is_look (Some (act.Ask change)) = false

module _ (rules : Rules) (steps : List Step) (before : List Event) (caller : ℕ) (found : Option Act)
    (is : found ≡ slice_get (acts_of caller steps) (count_by (is_called_by caller) before)) where
  -- where the next act of an operator is no change, no event is one that the row of a change asks for
  pub no-ask : is_ask found ≡ false → (from : ℕ) (told : LogVerdict) (event : Event) → IsRight rules before event
      → Asks steps before (row.Submit caller from told) event → ⊥
  no-ask other from told event right asks = grind arith

  -- where it is no look, no event is one that the row of a look asks for
  pub no-look : is_look found ≡ false → (next : ℕ) (event : Event) → IsRight rules before event
      → Asks steps before (row.Look caller next) event → ⊥
  no-look other next event right asks = grind arith

-- where no right answer is planned from a cycle, no right event is a change from there
pub no-change : (rules : Rules) (steps : List Step) (before : List Event) (caller from : ℕ) (change : Change)
    → IsNextAct steps before caller (act.Ask change)
    → ((verdict : Verdict) (trail : List ℕ) → IsRightAnswer rules before change from verdict trail → ⊥)
    → (told : LogVerdict) (event : Event) → IsRight rules before event → Asks steps before (row.Submit caller from told) event → ⊥
no-change rules steps before caller from change next none told (Submit number also since verdict trail) right asks =
    let change_is : also ≡ change =
    same-change (slice_get (acts_of caller steps) (count_by (is_called_by caller) before)) also change asks.2 next in
    none verdict trail
    (grind arith)
no-change rules steps before caller from change next none told (Look number cycle) right asks = absurd asks
no-change rules steps before caller from change next none told (Open cycle mask) right asks = absurd asks
