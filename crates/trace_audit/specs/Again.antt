-- A run that is done again, event by event, as the rows of a log ask for it.
use Rattle.std.specs.Prelude.{◌≡◌, ℕ, ◌<◌, true, List, [], ◌∷◌, ◌++◌, sum_by}
use Rattle.can_frame.specs.declared.data_frame.TimedFrame.{TimedFrame}
use Rattle.async_window.specs.declared.request.Request.{Request}
use Rattle.change_protocol.specs.declared.operations.Act.TheVariants as act
use Rattle.master_core.specs.declared.event.Event.{Event}
use Rattle.master_core.specs.declared.event.Event.TheVariants.{Submit, Look, Open}
use Rattle.master_core.specs.History.{next_of}
use Rattle.kept_run.specs.Progress.{IsOnTheWay}
use Rattle.steps_file.specs.StepsFile.{count_of}
use Rattle.steps_file.specs.declared.steps.Step.{Step}
use Rattle.system_file.specs.declared.system.System.{System}
use Rattle.replay_run.specs.Progress.{EndsIn}
use Rattle.replay_run.specs.Run.{setting_of}
use Rattle.bus_trace.specs.EventRows.{told_at}
use Rattle.bus_trace.specs.Logged.{IsEventNear}
use Rattle.bus_trace.specs.LogRows.{events_told}
use Rattle.log_reader.specs.declared.row.LogRow.{LogRow}
use Rattle.log_reader.specs.declared.row.LogRow.TheVariants as row
use Rattle.trace_audit.specs.Ahead.{AreStepsAhead}
use Rattle.trace_audit.specs.Reading.{IsNextAct}
use Rattle.trace_audit.specs.States.{KeepsStates}
use Rattle.trace_audit.specs.declared.rerun.Rerun.{Rerun}

-- master and nodes are those of a run of the system with this trace, all events are kept, and so are the states of its
-- plan
pub record IsAgain (system : System) (requests : List Request) (trace : List TimedFrame) (rerun : Rerun) : Type 0 where
  pub same_rules : rerun.master.rules ≡ system.rules
  pub keeps : rerun.master.keeps ≡ true
  pub way : IsOnTheWay (setting_of system requests) rerun.master.history trace rerun.nodes
  pub states : KeepsStates rerun.master.rules rerun.master.history rerun.master.placed rerun.states

-- so it is for some system, requests and trace
abbrev pub CanGoOn : Rerun → Type 0
CanGoOn rerun = (system : System) × (requests : List Request) × (trace : List TimedFrame) × IsAgain system requests trace rerun

-- the history ends in an event whose rows can be told
pub record EndsNear (history : List Event) : Type 0 where
  pub event : Event
  pub ends : EndsIn history event
  pub near : IsEventNear event

-- a cycle was opened and run: its window, in bit times, and its frames are those that the run has of the last cycle
pub record IsRerunOpened (system : System) (requests : List Request) (trace : List TimedFrame)
    (old new : Rerun) : Type 0 where
  pub cycle : ℕ
  pub mask : ℕ
  pub history : new.master.history ≡ old.master.history ++ Open cycle mask ∷ []
  pub again : IsAgain system requests (trace ++ new.sent) new
  pub told : events_told (trace ++ new.sent) [] new.master.history
      ≡ events_told trace [] old.master.history ++ told_at new.width (Open cycle mask) new.sent

-- the row asks for the event, after the events before it: it is of the row's kind and has the row's caller. A change or a
-- look is the next act of its operator in the steps, a change is planned from the row's `from`, and an opening is one of
-- those that all counts together ask for. The cases of the other rows stand first: what is left is the row of an opening
abbrev pub Asks : List Step → List Event → LogRow → Event → Type 0
Asks steps before (row.Submit caller from told) (Submit number change since verdict trail) =
    (number ≡ caller) × (since ≡ from) × IsNextAct steps before caller (act.Ask change)
Asks steps before (row.Submit caller from told) _ = ⊥
Asks steps before (row.Look caller next) (Look number cycle) = (number ≡ caller) × IsNextAct steps before caller act.Look
Asks steps before (row.Look caller next) _ = ⊥
Asks steps before (row.Plan cycle mask) _ = ⊥
Asks steps before (row.Frame timed) _ = ⊥
Asks steps before (row.End next) _ = ⊥
Asks steps before _ (Open cycle mask) = next_of before < sum_by count_of steps
Asks steps before _ _ = ⊥

-- the run has one event more, which the row asks for and the steps no longer have before it. The rows of the event can be
-- told, with the window and the frames of the cycle that was opened last
pub record IsRerunBroughtOn (system : System) (steps : List Step) (requests : List Request) (trace : List TimedFrame)
    (old : Rerun) (line : LogRow) (new : Rerun) : Type 0 where
  pub event : Event
  pub asks : Asks steps old.master.history line event
  pub near : IsEventNear event
  pub history : new.master.history ≡ old.master.history ++ event ∷ []
  pub frames : List TimedFrame
  pub again : IsAgain system requests (trace ++ frames) new
  pub ahead : AreStepsAhead steps new.master.history new.ahead
  pub told : events_told (trace ++ frames) [] new.master.history
      ≡ events_told trace [] old.master.history ++ told_at new.width event new.sent
