-- A run whose rows are heard, and one that is cut short.
use Rattle.std.proofs.Common.{◌≡◌, ℕ, Result, Ok, Err, List, [], ◌∷◌, ◌++◌, map, refl, sym, ap, ◌∙◌, subst}
use Rattle.std.specs.Prelude.{OnOk, is_some}
use Rattle.std.proofs.lemmas.List.{append-nil}
use Rattle.can_frame.specs.declared.data_frame.TimedFrame.{TimedFrame}
use Rattle.bus_trace.specs.EventRows.{rows_of_event}
use Rattle.bus_trace.specs.Log.{events_rows}
use Rattle.master_core.specs.Calls.{Call, call_of}
use Rattle.master_core.specs.declared.event.Event.{Event}
use Rattle.master_core.specs.History.{next_of, placed_of}
use Rattle.replay_run.specs.Heard.{PassesOn}
use Rattle.replay_run.specs.Progress.{BringsOn, CanGo, GoesStill, IsBusAt}
use Rattle.replay_run.specs.Runs.{CanLog, CanRun, GoesOnLogging, HearsLast, IsCutAfter, IsHeardSoFar, RunsOn, RunsStill}
use Rattle.replay_run.specs.declared.bus.Bus.{Bus}
use Rattle.replay_run.specs.declared.cut.Cut.TheVariants.{Memory, Write}

-- A bus

-- a run that only made room was brought on no less
pub still-on : (run between after : Bus) (frames : List TimedFrame) → GoesStill run between → BringsOn between after frames
    → BringsOn run after frames
still-on run between after frames still brings = λ setting trace going.
    let on = brings setting trace (still.going setting trace going) in
    record {
      event = on.event;
      history = on.history ∙ ap (λ h. h ++ on.event ∷ []) still.same;
      going = on.going;
      rows = λ whole legal placed next. on.rows whole legal (placed ∙ ap placed_of (sym still.same)) (next ∙ ap next_of (sym still.same));
    }

pub can-go : (run : Bus) → CanRun IsBusAt run → CanGo run
can-go run can = (can.0.setting, can.2, can.3.going)

pub still-can : (run after : Bus) → GoesStill run after → CanGo run → CanGo after
still-can run after still can = (can.0, can.1, still.going can.0 can.1 can.2)

-- a bus that was brought on by one call runs on
pub bus-on : (run after : Bus) (frames : List TimedFrame) (calls : List Call) → BringsOn run after frames
    → map call_of after.master.history ≡ map call_of run.master.history ++ calls → is_some after.trace ≡ is_some run.trace
    → RunsOn IsBusAt run after.master.history frames calls after
bus-on run after frames calls brings answers kept = λ on whole trace is.
    let brought = brings on.setting trace is.going in
    let history = brought.history ∙ ap (λ h. h ++ brought.event ∷ []) is.history_is in
    record {
      event = brought.event;
      ends = record { before = run.master.history; is = brought.history };
      answers = ap (map call_of) (sym history) ∙ answers ∙ ap (λ h. map call_of h ++ calls) is.history_is;
      goes = record { history_is = history; going = brought.going; kept = kept ∙ is.kept };
      rows = subst (λ h. events_rows (trace ++ frames) [] (h ++ brought.event ∷ []) ≡ events_rows trace [] h ++ rows_of_event brought.event frames) is.history_is
          (brought.rows run.master.history is.going.way.under_way.legal refl refl);
    }

-- one that answered an act
pub bus-answered : {T E : Type 0} (run after : Bus) (calls : List Call) (result : Result T E) → OnOk result (BringsOn run after [])
    → OnOk result (map call_of after.master.history ≡ map call_of run.master.history ++ calls) → OnOk result (is_some after.trace ≡ is_some run.trace)
    → OnOk result (RunsOn IsBusAt run after.master.history [] calls after)
bus-answered run after calls (Ok value) brings answers kept = bus-on run after [] calls brings answers kept
bus-answered run after calls (Err why) brings answers kept = tt

-- Whatever runs

module _ {S R : Type 0} (Goes : S → List Event → List TimedFrame → R → Type 0) {L : Type 0} (Heard : L → List ℕ → L → Type 0) where
  pub can-run : (run : R) (told : L) → CanLog Goes Heard run told → CanRun Goes run
  can-run run told can = (can.0.setting, can.2.whole, can.2.trace, can.2.goes)

  -- what joins the rows of calls
  abbrev pub More : Type 0
  More = (one other third : L) (rows later : List ℕ) → Heard one rows other → Heard other later third → Heard one (rows ++ later) third

  -- a run that has answered a call, and the rows of whose last event were heard, goes on, whatever it settles then
  pub heard-on : More → (run after last : R) (history : List Event) (frames : List TimedFrame) (told now : L) (calls : List Call)
      → RunsOn Goes run history frames calls after → HearsLast Heard history frames told now → RunsStill Goes after last → GoesOnLogging Goes Heard run told calls last now
  heard-on more run after last history frames told now calls runs hears still = λ start before heard.
      let on = runs start.setting heard.whole heard.trace heard.goes in
      record {
        whole = heard.whole ++ on.event ∷ [];
        trace = heard.trace ++ frames;
        answers = on.answers ∙ ap (λ l. l ++ calls) heard.answers;
        goes = still start.setting (heard.whole ++ on.event ∷ []) (heard.trace ++ frames) on.goes;
        heard = subst (λ rows. Heard start.listener rows now) (sym on.rows)
            (more start.listener told now (events_rows heard.trace [] heard.whole) (rows_of_event on.event frames) heard.heard (hears on.event on.ends));
      }

  -- rows that are passed on while no call is answered
  pub goes-passing : (run : R) (told now : L) → PassesOn Heard Heard told now → GoesOnLogging Goes Heard run told [] run now
  goes-passing run told now passes = λ start before heard.
      subst (λ calls. IsHeardSoFar Goes Heard start calls run now) (sym (append-nil before))
      (record {
        whole = heard.whole;
        trace = heard.trace;
        answers = heard.answers;
        goes = heard.goes;
        heard = passes start.listener (events_rows heard.trace [] heard.whole) heard.heard;
      })

module _ {S R : Type 0} (Goes : S → List Event → List TimedFrame → R → Type 0) (Keeps : S → List Event → List TimedFrame → Type 0)
    (keeps : (setting : S) (whole : List Event) (trace : List TimedFrame) (one : R) → Goes setting whole trace one → Keeps setting whole trace)
    {L : Type 0} (Heard Broke : L → List ℕ → L → Type 0) where
  abbrev pub Later : Type 0
  Later = (one other third : L) (rows later : List ℕ) → Heard one rows other → Broke other later third → Broke one (rows ++ later) third

  -- where the listener broke off within them, the run is cut after that event
  pub cut-after : Later → (run after : R) (history : List Event) (frames : List TimedFrame) (told now : L) (calls : List Call)
      → RunsOn Goes run history frames calls after → HearsLast Broke history frames told now → IsCutAfter Heard Broke Keeps Goes run told calls now Write
  cut-after later run after history frames told now calls runs breaks = λ start before heard.
      let on = runs start.setting heard.whole heard.trace heard.goes in
      record {
        history = heard.whole ++ on.event ∷ [];
        trace = heard.trace ++ frames;
        front = record {
          later = [];
          answers = append-nil (map call_of (heard.whole ++ on.event ∷ [])) ∙ on.answers ∙ ap (λ l. l ++ calls) heard.answers;
          keeps = keeps start.setting (heard.whole ++ on.event ∷ []) (heard.trace ++ frames) after on.goes;
        };
        heard = subst (λ rows. Broke start.listener rows now) (sym on.rows)
            (later start.listener told now (events_rows heard.trace [] heard.whole) (rows_of_event on.event frames) heard.heard (breaks on.event on.ends));
      }

  -- where memory ran out, before these calls
  pub cut-before : (run : R) (calls : List Call) (told : L) → IsCutAfter Heard Broke Keeps Goes run told calls told Memory
  cut-before run calls told = λ start before heard. record {
    history = heard.whole;
    trace = heard.trace;
    front = record {
      later = calls;
      answers = ap (λ l. l ++ calls) heard.answers;
      keeps = keeps start.setting heard.whole heard.trace run heard.goes;
    };
    heard = heard.heard;
  }

  pub cut-passing : (run : R) (told now : L) → PassesOn Heard Broke told now → IsCutAfter Heard Broke Keeps Goes run told [] now Write
  cut-passing run told now passes = λ start before heard. record {
    history = heard.whole;
    trace = heard.trace;
    front = record {
      later = [];
      answers = ap (λ l. l ++ []) heard.answers;
      keeps = keeps start.setting heard.whole heard.trace run heard.goes;
    };
    heard = passes start.listener (events_rows heard.trace [] heard.whole) heard.heard;
  }
