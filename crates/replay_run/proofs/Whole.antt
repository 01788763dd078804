-- A run whose rows were heard, as a whole.
use Rattle.std.proofs.Common.{◌≡◌, ℕ, Bool, Option, Some, Result, Ok, Err, IfErr, IsErrAnd, List, [], ◌++◌, map, refl, sym, ap, ◌∙◌, subst, inl, inr}
use Rattle.std.specs.List.{concat, flat_map}
use Rattle.can_frame.specs.declared.data_frame.TimedFrame.{TimedFrame}
use Rattle.async_window.specs.declared.request.Request.{Request}
use Rattle.steps_file.specs.declared.steps.Step.{Step}
use Rattle.system_file.specs.declared.system.System.{System}
use Rattle.master_core.specs.Calls.{Call, call_of}
use Rattle.master_core.specs.declared.event.Event.{Event}
use Rattle.master_core.specs.History.{next_of}
use Rattle.kept_run.specs.Progress.{IsUnderWay}
use Rattle.kept_run.specs.Setting.{IsSetting}
use Rattle.kept_run.proofs.Shared.{Promises, bytes_of-forgets}
use Rattle.ftt_io.specs.Puts.{PutsPrefix}
use Rattle.ftt_io.proofs.Shared.{PutsPrefix-all, PutsPrefix-longer}
use Rattle.bus_trace.specs.LastRows.{AreRows, last_rows}
use Rattle.bus_trace.specs.Log.{end_row, events_rows, log_text}
use Rattle.replay_run.specs.Begun.{IsRunBegun}
use Rattle.replay_run.specs.Heard.{HoldsLast, Keeps, rows_held}
use Rattle.replay_run.specs.Progress.{BusSetting, IsBusAt, IsKeptOnBus}
use Rattle.replay_run.specs.Run.{AnswersSteps, IsRun, calls_of, setting_of}
use Rattle.replay_run.specs.Runs.{AnswersAll, AnswersFirst, GoesOnLogging, HasRun, HeardAt, IsCutAfter, IsHeardSoFar, Start}
use Rattle.replay_run.specs.Whole.{IsCutOff, IsHeard, IsLogOf}
use Rattle.replay_run.specs.Written.{IsKeptLog, IsRunCut, Took, TookFront}
use Rattle.replay_run.specs.declared.bus.Bus.{Bus}
use Rattle.replay_run.specs.declared.cut.Cut.{Cut}
use Rattle.replay_run.specs.declared.cut.Cut.TheVariants.{Memory, Write}
use Rattle.replay_run.specs.declared.listener.Tail.{Tail}

-- Whatever runs

-- what holds of a cause holds of an error of that cause
pub caused : {T : Type 0} (result : Result T Cut) (P : Cut → Type 0) (why : Cut) → IsErrAnd result (λ cause. cause ≡ why) → P why → IfErr result P
caused (Ok value) P why is holds = absurd is
caused (Err cause) P why is holds = subst P (sym is) holds

-- what is so of a run of the first calls, and of the text of a whole one, may be said weaker
pub cut-weaker : {L : Type 0} (Heard Broke : L → List ℕ → L → Type 0) (Begun Less : List Event → List TimedFrame → Type 0) (IsText Least : List ℕ → Type 0)
    (old new : L) (why : Cut) → ((history : List Event) (trace : List TimedFrame) → Begun history trace → Less history trace)
    → ((text : List ℕ) → IsText text → Least text) → IsCutOff Heard Broke Begun IsText old new why → IsCutOff Heard Broke Less Least old new why
cut-weaker Heard Broke Begun Less IsText Least old new why less least (inl is) =
    inl (record { history = is.history; trace = is.trace; begun = less is.history is.trace is.begun; heard = is.heard })
cut-weaker Heard Broke Begun Less IsText Least old new why less least (inr is) =
    inr (record { text = is.text; is = least is.text is.is; write = is.write; broke = is.broke })

-- so is what is so of the history and the trace of a log
pub log-weaker : (Run Least : List Event → List TimedFrame → Type 0)
    → ((history : List Event) (trace : List TimedFrame) → Run history trace → Least history trace) → (text : List ℕ) → IsLogOf Run text → IsLogOf Least text
log-weaker Run Least least text is = record { history = is.history; trace = is.trace; run = least is.history is.trace is.run; text_is = is.text_is }

-- a run that could not begin
pub not-begun : {L : Type 0} (Heard Broke : L → List ℕ → L → Type 0) (Begun : List Event → List TimedFrame → Type 0) (IsText : List ℕ → Type 0) (told : L)
    → Heard told [] told → Begun [] [] → IsCutOff Heard Broke Begun IsText told told Memory
not-begun Heard Broke Begun IsText told nothing begun = inl (record { history = []; trace = []; begun = begun; heard = nothing })

-- what one heard, said of what it tells
pub heard-as : {L M : Type 0} (Heard : L → List ℕ → L → Type 0) (Takes : M → List ℕ → M → Type 0) (told : L → M)
    → ((one : L) (rows : List ℕ) (other : L) → Heard one rows other → Takes (told one) rows (told other))
    → (IsText : List ℕ → Type 0) (old new : L) → IsHeard Heard IsText old new → IsHeard Takes IsText (told old) (told new)
heard-as Heard Takes told took IsText old new is = record { text = is.text; is = is.is; heard = took old is.text new is.heard }

-- and so if it was cut
module _ {L M : Type 0} (Heard Broke : L → List ℕ → L → Type 0) (Takes Fails : M → List ℕ → M → Type 0) (told : L → M)
    (took : (one : L) (rows : List ℕ) (other : L) → Heard one rows other → Takes (told one) rows (told other))
    (failed : (one : L) (rows : List ℕ) (other : L) → Broke one rows other → Fails (told one) rows (told other)) where
  at-as : (why : Cut) (old : L) (rows : List ℕ) (new : L) → HeardAt Heard Broke why old rows new → HeardAt Takes Fails why (told old) rows (told new)
  at-as Memory old rows new heard = took old rows new heard
  at-as Write old rows new broke = failed old rows new broke

  pub cut-as : (Begun : List Event → List TimedFrame → Type 0) (IsText : List ℕ → Type 0) (old new : L) (why : Cut)
      → IsCutOff Heard Broke Begun IsText old new why → IsCutOff Takes Fails Begun IsText (told old) (told new) why
  cut-as Begun IsText old new why (inl is) =
      inl (record { history = is.history; trace = is.trace; begun = is.begun; heard = at-as why old (events_rows is.trace [] is.history) new is.heard })
  cut-as Begun IsText old new why (inr is) = inr (record { text = is.text; is = is.is; write = is.write; broke = failed old is.text new is.broke })

-- whatever cut a run, the first bytes of its rows were put
pub front-at : (why : Cut) (old new : Option (List ℕ)) (rows : List ℕ) → HeardAt Took TookFront why old rows new → PutsPrefix old new rows
front-at Memory old new rows took = PutsPrefix-all old new rows took
front-at Write old new rows front = front

-- a text may have more behind it
pub cut-before_more : (Begun : List Event → List TimedFrame → Type 0) (IsText IsWhole : List ℕ → Type 0) (old new : Option (List ℕ)) (why : Cut)
    → ((text : List ℕ) → IsText text → (more : List ℕ) × IsWhole (text ++ more)) → IsRunCut Begun IsText old new why → IsRunCut Begun IsWhole old new why
cut-before_more Begun IsText IsWhole old new why whole (inl is) =
    inl (record { history = is.history; trace = is.trace; begun = is.begun; heard = is.heard })
cut-before_more Begun IsText IsWhole old new why whole (inr is) =
    let all = whole is.text is.is in
    inr (record { text = is.text ++ all.0; is = all.1; write = is.write; broke = PutsPrefix-longer all.0 is.broke })

module _ {S R : Type 0} (Goes : S → List Event → List TimedFrame → R → Type 0) {L : Type 0} (Heard : L → List ℕ → L → Type 0)
    (setting : S) (told : L) (nothing : Heard told [] told) where
  -- where the hearing begins
  abbrev pub start_at : Start S L
  start_at = record { setting = setting; listener = told }

  pub begins-heard : (run : R) → Goes setting [] [] run → IsHeardSoFar Goes Heard start_at [] run told
  begins-heard run goes = record { whole = []; trace = []; answers = refl; goes = goes; heard = nothing }

  -- a run that answered its calls, and its last row
  pub log-heard : ((one other third : L) (rows later : List ℕ) → Heard one rows other → Heard other later third → Heard one (rows ++ later) third)
      → (calls : List Call) (run after : R) (middle now : L) (next : ℕ) → Goes setting [] [] run → GoesOnLogging Goes Heard run told calls after middle
      → ((whole : List Event) (trace : List TimedFrame) → Goes setting whole trace after → next ≡ next_of whole) → Heard middle (end_row next) now
      → IsHeard Heard (IsLogOf (HasRun Goes setting calls after)) told now
  log-heard more calls run after middle now next fresh on count heard =
      let is = on start_at [] (begins-heard run fresh) in
      record {
        text = log_text is.whole is.trace;
        is = record { history = is.whole; trace = is.trace; run = record { answers = is.answers; keeps = is.goes }; text_is = refl };
        heard = more told middle now (events_rows is.trace [] is.whole) (end_row (next_of is.whole)) is.heard
            (subst (λ n. Heard middle (end_row n) now) (count is.whole is.trace is.goes) heard);
      }

  module _ (Keeps : S → List Event → List TimedFrame → Type 0) (Broke : L → List ℕ → L → Type 0) (calls : List Call) where
    -- a run that was cut in its calls
    pub cut-short : (run : R) (now : L) (why : Cut) → Goes setting [] [] run → IsCutAfter Heard Broke Keeps Goes run told calls now why
        → IsCutOff Heard Broke (AnswersFirst Keeps setting calls) (IsLogOf (AnswersAll Keeps setting calls)) told now why
    cut-short run now why fresh cut =
        let is = cut start_at [] (begins-heard run fresh) in
        inl (record { history = is.history; trace = is.trace; begun = is.front; heard = is.heard })

    -- one whose last row was not heard
    pub cut-at_end : ((one other third : L) (rows later : List ℕ) → Heard one rows other → Broke other later third → Broke one (rows ++ later) third)
        → ((one : R) (whole : List Event) (trace : List TimedFrame) → Goes setting whole trace one → Keeps setting whole trace)
        → (run after : R) (middle now : L) (next : ℕ) → Goes setting [] [] run → GoesOnLogging Goes Heard run told calls after middle
        → ((whole : List Event) (trace : List TimedFrame) → Goes setting whole trace after → next ≡ next_of whole) → Broke middle (end_row next) now
        → IsCutOff Heard Broke (AnswersFirst Keeps setting calls) (IsLogOf (AnswersAll Keeps setting calls)) told now Write
    cut-at_end later keeps run after middle now next fresh on count broke =
        let is = on start_at [] (begins-heard run fresh) in
        inr (record {
          text = log_text is.whole is.trace;
          is = record {
            history = is.whole;
            trace = is.trace;
            run = record { answers = is.answers; keeps = keeps after is.whole is.trace is.goes };
            text_is = refl;
          };
          write = refl;
          broke = later told middle now (events_rows is.trace [] is.whole) (end_row (next_of is.whole)) is.heard
              (subst (λ n. Broke middle (end_row n) now) (count is.whole is.trace is.goes) broke);
        })

-- A bus

module _ (laws : Promises) (system : System) (steps : List Step) (requests : List Request) where
  -- a run of the first calls of the steps
  pub begun-of : (history : List Event) (trace : List TimedFrame) (later : List Call) → map call_of history ++ later ≡ flat_map calls_of steps
      → IsKeptOnBus (setting_of system requests) history trace → IsRunBegun system steps requests history trace
  begun-of history trace later answers is = record {
    later = later;
    answers = answers;
    plain = is.plain;
    kept = laws.kept (setting_of system requests) history trace is.known bytes_of-forgets is.under_way;
  }

  -- and of all of them
  pub run-of : (history : List Event) (trace : List TimedFrame) → AnswersSteps history steps → IsKeptOnBus (setting_of system requests) history trace
      → IsRun system steps requests history trace
  run-of history trace answers is = record {
    answers = answers;
    plain = is.plain;
    kept = laws.kept (setting_of system requests) history trace is.known bytes_of-forgets is.under_way;
  }

  -- of none
  pub begun-at_once : IsSetting (setting_of system requests) → IsUnderWay (setting_of system requests) [] [] → IsRunBegun system steps requests [] []
  begun-at_once known way =
      begun-of [] [] (flat_map calls_of steps) refl (record { known = known; plain = record { legal = tt; now = tt }; under_way = way })

  -- what is kept of frames and events, or not
  abbrev pub kept_so : Bool → BusSetting
  kept_so keeps = record { setting = setting_of system requests; keeps = keeps }

  -- a bus whose whole log was heard
  pub heard-of : {L : Type 0} (Heard : L → List ℕ → L → Type 0) (keeps : Bool) (bus : Bus) (told now : L)
      → IsHeard Heard (IsLogOf (HasRun IsBusAt (kept_so keeps) (flat_map calls_of steps) bus)) told now
      → IsHeard Heard (IsKeptLog system steps requests bus.master.history bus.trace) told now
  heard-of Heard keeps bus told now heard =
      let is = heard.is in
      let at = is.run.keeps in
      record {
        text = heard.text;
        is = record {
          trace = is.trace;
          run = run-of bus.master.history is.trace (ap (map call_of) at.history_is ∙ is.run.answers)
              (record { known = at.going.way.known; plain = at.going.plain; under_way = at.going.way.under_way });
          frames = at.going.frames;
          text_is = is.text_is ∙ ap (λ h. log_text h is.trace) (sym at.history_is);
        };
        heard = heard.heard;
      }

-- The last rows

-- what was kept of a log is its last rows
pub tail-of : (log : List ℕ) (was is : Tail) (text : List ℕ) (count : ℕ) → Keeps was log is → HoldsLast [] was
    → (AreRows (rows_held is) → text ≡ last_rows (Some is.most) (rows_held is)) → was.most ≡ count → text ≡ last_rows (Some count) log
tail-of log was is text count keeps none last most =
    let tail = (keeps.last [] none).last in
    last tail.kept_whole ∙ ap concat tail.rows ∙ ap (λ m. last_rows (Some m) log) (keeps.most ∙ most)
