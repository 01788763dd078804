-- What is written of a log while it is made: which events are done, which frames are left, and which entries are still
-- needed.
use Rattle.std.specs.Prelude.{◌≡◌, ℕ, ◌^◌, ◌<◌, ◌≤◌, ◌==◌, ◌&&◌}
use Rattle.std.specs.Prelude.{Bool, true, is_some, if◌then◌else◌, List, [], ◌∷◌}
use Rattle.profile.specs.Limits.{most_nodes}
use Rattle.can_frame.specs.declared.data_frame.TimedFrame.{TimedFrame}
use Rattle.requirement_table.specs.declared.entries.Placed.{Placed}
use Rattle.requirement_table.specs.Instance.{instance_of, worst}
use Rattle.bit_sets.specs.Sets.{has_bit, most_slots}
use Rattle.requirement_table.specs.Table.{IsWellPlaced, width_in}
use Rattle.change_protocol.specs.declared.operations.Change.{Change}
use Rattle.change_protocol.specs.Malformed.{Bounds, IsWellFormed}
use Rattle.admission.specs.Verdict.{is_accepted}
use Rattle.master_core.specs.Cores.{IsPrunedBefore}
use Rattle.master_core.specs.declared.event.Event.{Event}
use Rattle.master_core.specs.declared.event.Event.TheVariants.{Submit, Look, Open}
use Rattle.bus_trace.specs.EventRows.{rows_at, told_at}
use Rattle.bus_trace.specs.Started.{started_in}
use Rattle.log_reader.specs.declared.row.LogRow.{LogRow}

-- The frames

-- whether the frame is a trigger
abbrev pub is_trigger : TimedFrame → Bool
is_trigger sent = sent.frame.identifier == 0

-- there is no frame, or the first one is a trigger
abbrev pub BeginsWithTrigger : List TimedFrame → Type 0
BeginsWithTrigger [] = Unit {0}
BeginsWithTrigger (sent ∷ later) = sent.frame.identifier ≡ 0

-- what is left of a trace without the frames before the trigger of cycle `next`
pub record IsLeft (trace : List TimedFrame) (next : ℕ) (left : List TimedFrame) : Type 0 where
  pub begins : BeginsWithTrigger left
  pub later : (cycle : ℕ) → next ≤ cycle → started_in cycle 0 trace ≡ started_in cycle next left

-- where the event opens a cycle, it is this one
abbrev pub IsInTurn : ℕ → Event → Type 0
IsInTurn next (Submit caller change from verdict trail) = Unit {0}
IsInTurn next (Look caller looked) = Unit {0}
IsInTurn next (Open cycle mask) = cycle ≡ next

-- the frames whose rows follow that of an event: those that start in the cycle that it opens
abbrev pub frames_of_event : List TimedFrame → Event → List TimedFrame
frames_of_event trace (Submit caller change from verdict trail) = []
frames_of_event trace (Look caller next) = []
frames_of_event trace (Open cycle mask) = started_in cycle 0 trace

-- The rows

-- where the event answers a change, the cycle from which it was planned is no large number
abbrev pub IsEventNear : Event → Type 0
IsEventNear (Submit caller change from verdict trail) = from < 2 ^ 63
IsEventNear (Look caller next) = Unit {0}
IsEventNear (Open cycle mask) = Unit {0}

-- the length of the synchronous window of the cycle that an event opens, by the entries whose instances may be sent in
-- it, or 0 where it opens none
abbrev pub width_with : List Placed → Event → ℕ
width_with placed (Submit caller change from verdict trail) = 0
width_with placed (Look caller next) = 0
width_with placed (Open cycle mask) = width_in placed cycle (has_bit mask)

-- the rows of an event and of these frames, by these entries
abbrev pub told_with : List Placed → List TimedFrame → Event → List LogRow
told_with placed frames event = told_at (width_with placed event) event frames

-- their text
abbrev pub rows_with : List Placed → List TimedFrame → Event → List ℕ
rows_with placed frames event = rows_at (width_with placed event) event frames

-- The entries

-- the change breaks no rule, for some numbers of nodes and slots that rules can have
pub record IsFormed (placed : List Placed) (change : Change) : Type 0 where
  pub bounds : Bounds
  pub few : bounds.nodes ≤ most_nodes
  pub room : bounds.slots ≤ most_slots
  pub well_formed : IsWellFormed placed bounds change

-- where the event accepts a change, it is such a change
abbrev pub IsFormedIn : List Placed → Event → Type 0
IsFormedIn placed (Submit caller change from verdict trail) = is_accepted verdict ≡ true → IsFormed placed change
IsFormedIn placed (Look caller next) = Unit {0}
IsFormedIn placed (Open cycle mask) = Unit {0}

-- these are of the placed entries those that are needed where no cycle before `next` is asked for: all but some that are
-- over by then and stand before another one of their slot
pub record HasEntries (list : List Placed) (next : ℕ) (kept : List Placed) : Type 0 where
  pub held : IsPrunedBefore next list kept
  pub well_placed : IsWellPlaced kept

-- what an entry costs in a cycle, in bit times: the worst length of its frame, where its slot is flagged and an
-- instance of it may be sent
abbrev pub cost_in : ℕ → (ℕ → Bool) → Placed → ℕ
cost_in c flagged p = if flagged p.entry.slot && is_some (instance_of p c) then worst p.entry.length else 0
