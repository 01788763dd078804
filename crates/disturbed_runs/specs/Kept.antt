-- What is kept on a bus that may be disturbed. Times and lengths are bit times.
use Rattle.std.specs.Prelude.{◌≡◌, ℕ, ◌+◌, ◌<◌, ◌≤◌, true, false, List, [], ◌∷◌, ◌++◌, All, Contains, Some}
use Rattle.profile.specs.Limits.{first_identifier, least_asynchronous}
use Rattle.stuff_bound.specs.Stuffing.{worst}
use Rattle.bit_sets.specs.Sets.{has_bit, most_slots}
use Rattle.can_frame.specs.DataFrame.{DataFrame}
use Rattle.can_frame.specs.declared.data_frame.TimedFrame.{TimedFrame}
use Rattle.cycle_layout.specs.Layout.{CycleLayout, async_open, trigger_part}
use Rattle.requirement_table.specs.declared.entries.Placed.{Placed}
use Rattle.requirement_table.specs.Instance.{Exists, Instance, IsLastCycle, release_of}
use Rattle.requirement_table.specs.Opening.{Opening}
use Rattle.master_core.specs.declared.event.Event.{Event}
use Rattle.master_core.specs.History.{IsLegal, next_of, placed_of}
use Rattle.master_core.specs.Openings.{openings_of}
use Rattle.bus_line.specs.Trace.{end_of}
use Rattle.node_model.specs.Opening.{end_of_cycle, start_of}
use Rattle.node_model.specs.Offered.{bytes_sent}
use Rattle.cycle_engine.specs.Cycle.{cycle_of}
use Rattle.kept_run.specs.Setting.{Setting}
use Rattle.kept_run.specs.Served.{NoStrangers, frames_of}
use Rattle.disturbed_runs.specs.Outages.{Outage, lost_in, under_way}
use Rattle.disturbed_runs.specs.Offered.{Late, Silent, first_from, is_silent, triggers_from}
use Rattle.disturbed_runs.specs.Budget.{IsWithinBudget}

-- One cycle

-- each trigger frame of the cycle is sent whole before the asynchronous window opens, and no later than by what is lost
pub record IsHeard (layout : CycleLayout) (outages : List Outage) (opening : Opening) (trace : List TimedFrame) (frame : DataFrame) : Type 0 where
  pub sent : TimedFrame
  pub among : Contains trace sent
  pub its_frame : sent.frame ≡ frame
  pub after : start_of layout opening ≤ sent.start
  pub before : end_of sent ≤ async_open layout opening.cycle
  pub soon : sent.start + worst 8
      ≤ start_of layout opening + trigger_part layout + lost_in (start_of layout opening) (async_open layout opening.cycle) outages

abbrev pub IsTriggerHeard : ℕ → CycleLayout → Silent → List Outage → List TimedFrame → Opening → Type 0
IsTriggerHeard reserve layout silent outages trace opening = silent.triggers opening.cycle ≡ false
    → All (IsHeard layout outages opening trace) (triggers_from reserve layout opening)

-- of the slot exactly one frame is sent whole in the cycle, within its synchronous window, and it carries the bytes that the
-- slot sends in it
pub record IsSentAgain (sends : Instance → List ℕ) (layout : CycleLayout) (reserve : ℕ) (late : Late) (opening : Opening) (trace : List TimedFrame)
    (slot : ℕ) : Type 0 where
  pub sent : TimedFrame
  pub once : frames_of layout (first_identifier + slot) opening.cycle opening.cycle trace ≡ sent ∷ []
  pub after : first_from reserve late layout opening ≤ sent.start
  pub before : end_of sent ≤ end_of_cycle layout opening
  pub carries : bytes_sent sends opening slot ≡ Some sent.frame.bytes

-- what one cycle keeps, whatever happened in the others
pub record IsCycleKept (sends : Instance → List ℕ) (layout : CycleLayout) (reserve : ℕ) (late : Late) (silent : Silent) (outages : List Outage)
    (trace : List TimedFrame) (opening : Opening) : Type 0 where
  -- its trigger is sent in time
  pub heard : IsTriggerHeard reserve layout silent outages trace opening
  -- each flagged slot that is not silent is sent in it
  pub sent : (slot : ℕ) → slot < most_slots → has_bit opening.mask slot ≡ true → is_silent silent opening.cycle slot ≡ false
      → IsSentAgain sends layout reserve late opening trace slot
  -- what starts before its asynchronous window opens has ended by then
  pub free : All (λ sent. start_of layout opening ≤ sent.start → sent.start < async_open layout opening.cycle
      → end_of sent ≤ async_open layout opening.cycle) trace
  -- and it leaves nothing to the next cycle
  pub ended : All (λ sent. start_of layout opening ≤ sent.start → sent.start < end_of_cycle layout opening
      → end_of sent ≤ end_of_cycle layout opening) trace

-- Whole runs

-- the frame lies in the synchronous window of the cycle in which it starts
pub record IsSentInTime (layout : CycleLayout) (reserve : ℕ) (late : Late) (openings : List Opening) (sent : TimedFrame) : Type 0 where
  pub opening : Opening
  pub opened : Contains openings opening
  pub cycle : opening.cycle ≡ cycle_of layout sent
  pub after : first_from reserve late layout opening ≤ sent.start
  pub before : end_of sent ≤ end_of_cycle layout opening

-- the slot of an instance is silent in none of the cycles in which it may be sent
abbrev pub IsLoud : Silent → Placed → ℕ → ℕ → Type 0
IsLoud silent placed k last = (cycle : ℕ) → release_of placed k ≤ cycle → cycle ≤ last → is_silent silent cycle placed.entry.slot ≡ false

-- of the instance exactly one frame of the slot is sent whole in the cycles from its release to its last one, within the
-- window of its cycle, and it carries the instance's bytes
pub record IsServedAgain (sends : Instance → List ℕ) (layout : CycleLayout) (reserve : ℕ) (late : Late) (openings : List Opening)
    (trace : List TimedFrame) (placed : Placed) (k last : ℕ) : Type 0 where
  pub sent : TimedFrame
  pub once : frames_of layout (first_identifier + placed.entry.slot) (release_of placed k) last trace ≡ sent ∷ []
  pub in_time : IsSentInTime layout reserve late openings sent
  pub carries : sent.frame.bytes ≡ sends (record { placed = placed; number = k })

-- the frame lies within the asynchronous window of its cycle
pub record IsGuardedAgain (layout : CycleLayout) (reserve : ℕ) (late : Late) (openings : List Opening) (sent : TimedFrame) : Type 0 where
  pub opening : Opening
  pub opened : Contains openings opening
  pub after : async_open layout opening.cycle ≤ sent.start
  pub before : end_of sent ≤ first_from reserve late layout opening

-- no asynchronous frame touches a trigger part or a synchronous window
abbrev pub AllGuardedAgain : CycleLayout → ℕ → Late → List Opening → List TimedFrame → Type 0
AllGuardedAgain layout reserve late openings trace =
    All (λ sent. least_asynchronous ≤ sent.frame.identifier → IsGuardedAgain layout reserve late openings sent) trace

-- *Kept* on a disturbed bus
pub record KeptAgain (setting : Setting) (reserve : ℕ) (late : Late) (silent : Silent) (history : List Event) (outages : List Outage) (trace : List TimedFrame) : Type 0 where
  -- each change has its verdict by the rules, each look the next cycle, and each opening the slots of the plan
  pub legal : IsLegal setting.rules history
  -- each trigger frame is sent whole before the asynchronous window of its cycle opens, where the trigger is not silent
  pub heard : All (IsTriggerHeard reserve setting.layout silent outages trace) (openings_of history)
  -- each instance of an entry that an accepted change placed, whose last cycle was opened, was sent whole, exactly once,
  -- in its time, if its slot is silent in none of its cycles
  pub served : (p : Placed) (k last : ℕ) → Contains (placed_of history) p
      → Exists p (release_of p k) → IsLastCycle p k last → last < next_of history → IsLoud silent p k last
      → IsServedAgain setting.sends setting.layout reserve late (openings_of history) trace p k last
  -- nothing else is sent with a slot's identifier
  pub no_strangers : NoStrangers setting.layout (placed_of history) trace
  -- no asynchronous frame touches a trigger part or a synchronous window
  pub guarded : AllGuardedAgain setting.layout reserve late (openings_of history) trace

-- the cycle keeps its budget, if what earlier cycles left on the bus counts as lost in it
abbrev pub KeepsBudget : CycleLayout → ℕ → Late → Silent → List Outage → List TimedFrame → Opening → Type 0
KeepsBudget layout reserve late silent outages trace opening =
    IsWithinBudget layout reserve late silent (outages ++ under_way (start_of layout opening) trace) opening

-- each of an instance's cycles in which its slot is flagged keeps its budget; the plan flags it in one of them
abbrev pub HasBudget : CycleLayout → ℕ → Late → Silent → List Outage → List TimedFrame → List Opening → Placed → ℕ → ℕ → Type 0
HasBudget layout reserve late silent outages trace openings placed k last = (opening : Opening) → Contains openings opening
    → release_of placed k ≤ opening.cycle → opening.cycle ≤ last → has_bit opening.mask placed.entry.slot ≡ true
    → KeepsBudget layout reserve late silent outages trace opening

-- what is kept of a run but for its cycles above the budget
pub record KeptButForBad (setting : Setting) (reserve : ℕ) (late : Late) (silent : Silent) (history : List Event) (outages : List Outage) (trace : List TimedFrame) : Type 0 where
  pub legal : IsLegal setting.rules history
  -- each cycle that keeps its budget is kept
  pub kept : All (λ opening. KeepsBudget setting.layout reserve late silent outages trace opening
      → IsCycleKept setting.sends setting.layout reserve late silent (outages ++ under_way (start_of setting.layout opening) trace) trace opening)
      (openings_of history)
  -- each instance is served if the cycle in which the plan flags it keeps its budget
  pub served : (p : Placed) (k last : ℕ) → Contains (placed_of history) p
      → Exists p (release_of p k) → IsLastCycle p k last → last < next_of history → IsLoud silent p k last
      → HasBudget setting.layout reserve late silent outages trace (openings_of history) p k last
      → IsServedAgain setting.sends setting.layout reserve late (openings_of history) trace p k last
  -- in all cycles
  pub no_strangers : NoStrangers setting.layout (placed_of history) trace
  pub guarded : AllGuardedAgain setting.layout reserve late (openings_of history) trace

-- in both traces one frame of the slot starts in the cycles from the instance's release to its last one: in the same
-- cycle, and with the same bytes
pub record IsSentInSameCycle (setting : Setting) (one other : List TimedFrame) (placed : Placed) (k last : ℕ) : Type 0 where
  pub first : TimedFrame
  pub second : TimedFrame
  pub once : frames_of setting.layout (first_identifier + placed.entry.slot) (release_of placed k) last one ≡ first ∷ []
  pub again : frames_of setting.layout (first_identifier + placed.entry.slot) (release_of placed k) last other ≡ second ∷ []
  pub cycle : cycle_of setting.layout first ≡ cycle_of setting.layout second
  pub frame : first.frame ≡ second.frame
