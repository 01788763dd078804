-- What is kept on a bus whose drivers do what they owe.
use Rattle.std.proofs.Common.{◌≡◌, ◌≢◌, ℕ, ◌+◌, ◌*◌, ◌<◌, ◌≤◌, List, [], ◌∷◌, All, AllPairs, Contains, arith}
use Rattle.std.proofs.lemmas.List.Elements.{All-contains}
use Rattle.can_frame.specs.declared.data_frame.TimedFrame.{TimedFrame}
use Rattle.trigger_kind.specs.Kind.{triggers_of}
use Rattle.trigger_kind.proofs.Shared.{part-least}
use Rattle.cycle_layout.specs.Layout.{CycleLayout, needed}
use Rattle.requirement_table.specs.Opening.{Opening}
use Rattle.master_core.specs.declared.event.Event.{Event}
use Rattle.master_core.specs.History.{IsLegal}
use Rattle.master_core.specs.Openings.{openings_of}
use Rattle.cycle_engine.specs.Cycle.{FitsWindow}
use Rattle.cycle_engine.specs.Offered.{AreOfDistinctCycles}
use Rattle.cycle_engine.proofs.Shared.{Contains-cases, Contains-here, Contains-nil}
use Rattle.kept_run.specs.Setting.{Setting}
use Rattle.disturbed_runs.specs.Offered.{Late, first_from, width_with}
use Rattle.disturbed_runs.specs.Budget.{IsReserved}
use Rattle.disturbed_runs.proofs.Shared.{fits-all}
use Rattle.node_model.specs.Opening.{start_of}
use Rattle.nodes_on_bus.specs.Duties.{LeaveRoom}
use Rattle.nodes_on_bus.proofs.Driven.{end-at}

leaves : (reserve : ℕ) (layout : CycleLayout) (o : Opening) → needed layout.turnaround (layout.window + reserve) layout.slots ≤ layout.cycle
    → FitsWindow layout o → width_with reserve o < layout.cycle
leaves reserve layout o room fits =
    let part = part-least (triggers_of layout.slots) in
    let width = fits.width in
    omega (arith, room, part, width)

-- the openings of a legal history leave something of their cycles
pub run-leaves : (setting : Setting) (reserve : ℕ) (history : List Event) → IsReserved setting reserve → IsLegal setting.rules history
    → LeaveRoom reserve setting.layout (openings_of history)
run-leaves setting reserve history reserved legal = λ o has.
    leaves reserve setting.layout o reserved.room
    (All-contains (FitsWindow setting.layout) (openings_of history) o (fits-all setting reserved.known history legal) has)

-- so does one opening
pub one-leaves : (reserve : ℕ) (layout : CycleLayout) (o : Opening) → needed layout.turnaround (layout.window + reserve) layout.slots ≤ layout.cycle
    → FitsWindow layout o → LeaveRoom reserve layout (o ∷ [])
one-leaves reserve layout o room fits = λ other has. grind (arith, Contains-cases, Contains-nil, leaves)

-- and it is of no cycle but one
pub one-distinct : (o : Opening) → AreOfDistinctCycles (o ∷ [])
one-distinct o = λ i j d before within. absurd (omega arith)

pub here : (o : Opening) → Contains (o ∷ []) o
here o = Contains-here o []

-- its window opens behind its start
pub window-behind : (reserve : ℕ) (late : Late) (layout : CycleLayout) (o : Opening) → needed layout.turnaround (layout.window + reserve) layout.slots ≤ layout.cycle
    → FitsWindow layout o → start_of layout o ≤ first_from reserve late layout o
window-behind reserve late layout o room fits =
    let narrow = leaves reserve layout o room fits in
    let longer = end-at layout o in
    omega (arith, narrow, longer)
