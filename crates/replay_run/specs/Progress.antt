-- A master and its bus between two calls.
use Rattle.std.specs.Prelude.{◌≡◌, ℕ, ◌+◌, ◌*◌, ◌/◌, ◌≤◌, Bool, List, [], ◌∷◌, ◌++◌, Option, Some, None, Vec, is_some, length, map, vec_len, vec_capacity}
use Rattle.std.proofs.Common.{subst}
use Rattle.profile.specs.Limits.{shortest_frame}
use Rattle.can_frame.specs.DataFrame.{DataFrame}
use Rattle.can_frame.specs.declared.data_frame.TimedFrame.{TimedFrame}
use Rattle.requirement_table.specs.declared.entries.Order.{Order}
use Rattle.requirement_table.specs.Instance.{bytes_of}
use Rattle.admission_rules.specs.declared.Rules.{Rules}
use Rattle.trigger_codec.specs.Bytes.{triggers_with}
use Rattle.master_core.specs.declared.event.Event.{Event}
use Rattle.master_core.specs.declared.event.Event.TheVariants.{Open}
use Rattle.master_core.specs.History.{IsLegal, IsPlainlyLegal, next_of, placed_of}
use Rattle.master_core.specs.Orders.{IsOrder}
use Rattle.bus_line.specs.Trace.{Follows}
use Rattle.cycle_engine.specs.Nodes.{HaveSpare}
use Rattle.cycle_engine.specs.Offered.{offered_in}
use Rattle.kept_run.specs.Progress.{IsOnTheWay, IsUnderWay}
use Rattle.kept_run.specs.Setting.{IsSetting, Setting}
use Rattle.bus_trace.specs.EventRows.{HasItsFrames, rows_of_event}
use Rattle.bus_trace.specs.Log.{events_rows, triggers_in}
use Rattle.bus_trace.specs.Logged.{IsEventNear}
use Rattle.replay_run.specs.declared.bus.Bus.{Bus}

-- A master and its bus

-- where frames are kept, they are these
abbrev pub KeepsFrames : {B : Type 0} → Option (Vec TimedFrame B) → List TimedFrame → Type 0
KeepsFrames None frames = Unit {0}
KeepsFrames (Some kept) frames = kept.items ≡ frames

-- master and nodes are those of a run in this setting with this trace, the frames that are kept are its, and all events
-- are kept where frames are
pub record IsGoing (setting : Setting) (trace : List TimedFrame) (bus : Bus) : Type 0 where
  pub same_rules : bus.master.rules ≡ setting.rules
  pub plain : IsPlainlyLegal setting.rules bus.master.history
  pub way : IsOnTheWay setting bus.master.history trace bus.nodes
  pub triggers : triggers_in trace ≡ next_of bus.master.history
  pub frames : KeepsFrames bus.trace trace
  pub events : bus.master.keeps ≡ is_some bus.trace
  pub spare : HaveSpare bus.spare bus.nodes.nodes

-- a run is going in some setting, with some trace
abbrev pub CanGo : Bus → Type 0
CanGo bus = (setting : Setting) × (trace : List TimedFrame) × IsGoing setting trace bus

-- no call was answered, and what was so of the run is so
pub record GoesStill (old new : Bus) : Type 0 where
  pub same : new.master.history ≡ old.master.history
  pub kept : is_some new.trace ≡ is_some old.trace
  pub going : (setting : Setting) (trace : List TimedFrame) → IsGoing setting trace old → IsGoing setting trace new

-- where frames are kept, there is room for those of one cycle more
abbrev pub HasTraceRoom : {B : Type 0} → Option (Vec TimedFrame B) → Type 0
HasTraceRoom None = Unit {0}
HasTraceRoom (Some kept) = vec_len kept + 2128 ≤ vec_capacity kept

-- all memory is taken that the next cycle needs: for its event, for what the nodes may have to learn, for its frames, and
-- for them where frames are kept
pub record IsBusReady (bus : Bus) : Type 0 where
  pub event : 1 ≤ bus.master.spare
  pub entries : length bus.master.placed ≤ bus.spare
  pub room : bus.nodes.layout.cycle / shortest_frame + 1 ≤ vec_capacity bus.room
  pub frames : HasTraceRoom bus.trace

-- the frames of a cycle that was opened behind this history, which begin with the trigger frames that are due
pub record BeginWithTriggers (rules : Rules) (history : List Event) (frames : List TimedFrame) : Type 0 where
  pub order : Order
  pub due : IsOrder rules history order
  pub later : List DataFrame
  pub begin : map (λ sent. sent.frame) frames ≡ triggers_with rules.slots order.cycle order.l order.mask ++ later

-- the history ends in the event
pub record EndsIn (history : List Event) (event : Event) : Type 0 where
  pub before : List Event
  pub is : history ≡ before ++ event ∷ []

-- the rows of the history's last event can be told, where these are its frames
pub record CanTellLast (history : List Event) (frames : List TimedFrame) : Type 0 where
  pub event : Event
  pub ends : EndsIn history event
  pub near : IsEventNear event
  pub its : HasItsFrames event frames

-- the run was brought on by one event, with these frames; behind each legal history with the same placed entries and the
-- same next cycle, the event's rows are what it adds to the rows
pub record IsBroughtOn (setting : Setting) (trace : List TimedFrame) (old new : Bus) (frames : List TimedFrame)
    : Type 0 where
  pub event : Event
  pub history : new.master.history ≡ old.master.history ++ event ∷ []
  pub going : IsGoing setting (trace ++ frames) new
  pub rows : (whole : List Event) → IsLegal setting.rules whole
      → placed_of whole ≡ placed_of old.master.history → next_of whole ≡ next_of old.master.history
      → events_rows (trace ++ frames) [] (whole ++ event ∷ []) ≡ events_rows trace [] whole ++ rows_of_event event frames

-- so it is in each setting and with each trace with which the run was going
abbrev pub BringsOn : Bus → Bus → List TimedFrame → Type 0
BringsOn old new frames = (setting : Setting) (trace : List TimedFrame)
    → IsGoing setting trace old → IsBroughtOn setting trace old new frames

-- the run was brought on by an opening, whose cycle was run with these frames: they follow the trace by what is offered in
-- the cycle
pub record IsRunNext (setting : Setting) (trace : List TimedFrame) (old new : Bus) (frames : List TimedFrame) : Type 0 where
  pub cycle : ℕ
  pub mask : ℕ
  pub history : new.master.history ≡ old.master.history ++ Open cycle mask ∷ []
  pub follows : Follows (offered_in bytes_of setting.layout setting.requests
      (record { cycle = cycle; mask = mask; placed = placed_of old.master.history }))
      trace (cycle * setting.layout.cycle) ((cycle + 1) * setting.layout.cycle) frames

-- so it is in each setting and with each trace with which the run was going
abbrev pub RunsNext : Bus → Bus → List TimedFrame → Type 0
RunsNext old new frames = (setting : Setting) (trace : List TimedFrame)
    → IsGoing setting trace old → IsRunNext setting trace old new frames

-- What runs

-- what a bus stands on, and whether its frames and all events are kept
pub record BusSetting : Type 0 where
  pub setting : Setting
  pub keeps : Bool

-- its master has answered the calls of this history, with this trace
pub record IsBusAt (on : BusSetting) (history : List Event) (trace : List TimedFrame) (bus : Bus) : Type 0 where
  pub history_is : bus.master.history ≡ history
  pub going : IsGoing on.setting trace bus
  pub kept : is_some bus.trace ≡ on.keeps

-- what a history and a trace on a bus keep: the trace is that of the history's cycles, and each change is planned when it
-- is answered
pub record IsKeptOnBus (setting : Setting) (history : List Event) (trace : List TimedFrame) : Type 0 where
  pub known : IsSetting setting
  pub plain : IsPlainlyLegal setting.rules history
  pub under_way : IsUnderWay setting history trace

pub on-bus : (on : BusSetting) (history : List Event) (trace : List TimedFrame) (bus : Bus) → IsBusAt on history trace bus
    → IsKeptOnBus on.setting history trace
on-bus on history trace bus is = subst (λ h. IsKeptOnBus on.setting h trace) is.history_is
    (record { known = is.going.way.known; plain = is.going.plain; under_way = is.going.way.under_way })
