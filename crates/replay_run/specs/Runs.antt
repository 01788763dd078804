-- What runs call by call on a bus, between two of its calls, and what hears its rows.
use Rattle.std.specs.Prelude.{◌≡◌, ℕ, List, [], ◌∷◌, ◌++◌, map}
use Rattle.can_frame.specs.declared.data_frame.TimedFrame.{TimedFrame}
use Rattle.master_core.specs.Calls.{Call, call_of}
use Rattle.master_core.specs.declared.event.Event.{Event}
use Rattle.bus_trace.specs.EventRows.{rows_of_event}
use Rattle.bus_trace.specs.Log.{events_rows}
use Rattle.replay_run.specs.Progress.{EndsIn}
use Rattle.replay_run.specs.declared.cut.Cut.{Cut}
use Rattle.replay_run.specs.declared.cut.Cut.TheVariants.{Memory, Write}

-- what a run stands on, and what heard its rows when it began
pub record Start (S L : Type 0) : Type 0 where
  pub setting : S
  pub listener : L

-- where `Goes` says that a run goes on in a setting, with this history from its first call on and this trace
module _ {S R : Type 0} (Goes : S → List Event → List TimedFrame → R → Type 0) where
  -- it goes on so in some setting
  abbrev pub CanRun : R → Type 0
  CanRun run = (setting : S) × (whole : List Event) × (trace : List TimedFrame) × Goes setting whole trace run

  -- the run has answered these calls by one event more, the last one of its master's history, with these frames; the
  -- event's rows are what it adds to the run's rows
  pub record IsRunOn (setting : S) (whole : List Event) (trace : List TimedFrame) (history : List Event)
      (frames : List TimedFrame) (calls : List Call) (new : R) : Type 0 where
    pub event : Event
    pub ends : EndsIn history event
    pub answers : map call_of (whole ++ event ∷ []) ≡ map call_of whole ++ calls
    pub goes : Goes setting (whole ++ event ∷ []) (trace ++ frames) new
    pub rows : events_rows (trace ++ frames) [] (whole ++ event ∷ [])
        ≡ events_rows trace [] whole ++ rows_of_event event frames

  -- so it is in each setting, with each history and trace with which the run was going
  abbrev pub RunsOn : R → List Event → List TimedFrame → List Call → R → Type 0
  RunsOn old history frames calls new = (setting : S) (whole : List Event) (trace : List TimedFrame)
      → Goes setting whole trace old → IsRunOn setting whole trace history frames calls new

  -- what was so of the run is so
  abbrev pub RunsStill : R → R → Type 0
  RunsStill old new = (setting : S) (whole : List Event) (trace : List TimedFrame)
      → Goes setting whole trace old → Goes setting whole trace new

-- where `Heard` says that one who hears has heard some rows, it heard those of the history's last event
abbrev pub HearsLast : {L : Type 0} → (L → List ℕ → L → Type 0) → List Event → List TimedFrame → L → L → Type 0
HearsLast Heard history frames old new = (event : Event) → EndsIn history event → Heard old (rows_of_event event frames) new

-- a run, and one who hears its rows
module _ {S R : Type 0} (Goes : S → List Event → List TimedFrame → R → Type 0)
    {L : Type 0} (Heard : L → List ℕ → L → Type 0) where
  -- the run has a history that answers these calls, and a trace, and its rows so far were heard
  pub record IsHeardSoFar (start : Start S L) (calls : List Call) (run : R) (now : L) : Type 0 where
    pub whole : List Event
    pub trace : List TimedFrame
    pub answers : map call_of whole ≡ calls
    pub goes : Goes start.setting whole trace run
    pub heard : Heard start.listener (events_rows trace [] whole) now

  -- from some start it is so
  abbrev pub CanLog : R → L → Type 0
  CanLog run now = (start : Start S L) × (calls : List Call) × IsHeardSoFar start calls run now

  -- the run has answered these calls after those before, and its rows are heard
  abbrev pub GoesOnLogging : R → L → List Call → R → L → Type 0
  GoesOnLogging old told calls new now = (start : Start S L) (before : List Call)
      → IsHeardSoFar start before old told → IsHeardSoFar start (before ++ calls) new now

-- where `Keeps` says what a history and a trace keep, whatever became of the run
module _ {S : Type 0} (Keeps : S → List Event → List TimedFrame → Type 0) where
  -- they answer the first of these calls
  pub record AnswersFirst (setting : S) (calls : List Call) (history : List Event) (trace : List TimedFrame) : Type 0 where
    pub later : List Call
    pub answers : map call_of history ++ later ≡ calls
    pub keeps : Keeps setting history trace

  -- they answer these calls
  pub record AnswersAll (setting : S) (calls : List Call) (history : List Event) (trace : List TimedFrame) : Type 0 where
    pub answers : map call_of history ≡ calls
    pub keeps : Keeps setting history trace

-- the run has answered these calls from its first one on, with this history and this trace
abbrev pub HasRun : {S R : Type 0} → (S → List Event → List TimedFrame → R → Type 0) → S → List Call → R
    → List Event → List TimedFrame → Type 0
HasRun Goes setting calls run = AnswersAll (λ on whole trace. Goes on whole trace run) setting calls

-- where `Broke` says that one who hears broke off within some rows, this was heard of rows when a run was cut: all of them
-- where memory ran out, else the first of them
abbrev pub HeardAt : {L : Type 0} → (L → List ℕ → L → Type 0) → (L → List ℕ → L → Type 0) → Cut → L → List ℕ → L → Type 0
HeardAt Heard Broke Memory old rows now = Heard old rows now
HeardAt Heard Broke Write old rows now = Broke old rows now

-- a run that was cut
module _ {L : Type 0} (Heard Broke : L → List ℕ → L → Type 0) {S : Type 0} (Keeps : S → List Event → List TimedFrame → Type 0) where
  -- the first of these calls were answered, and the rows of the run so far were heard, or the first of them
  pub record IsCutIn (start : Start S L) (calls : List Call) (now : L) (why : Cut) : Type 0 where
    pub history : List Event
    pub trace : List TimedFrame
    pub front : AnswersFirst Keeps start.setting calls history trace
    pub heard : HeardAt Heard Broke why start.listener (events_rows trace [] history) now

  -- the run was cut in these calls after those before
  abbrev pub IsCutAfter : {R : Type 0} → (S → List Event → List TimedFrame → R → Type 0)
      → R → L → List Call → L → Cut → Type 0
  IsCutAfter Goes old told calls now why = (start : Start S L) (before : List Call)
      → IsHeardSoFar Goes Heard start before old told → IsCutIn start (before ++ calls) now why
