-- What is told of a log that was written while its run went on.
use Rattle.std.proofs.Common.{◌≡◌, ℕ, Bool, false, List, [], ◌++◌, Option, Some, None, refl, sym, ap, ◌∙◌, subst, inl, inr, append-nil}
use Rattle.std.specs.Prelude.{if◌then◌else◌, is_some}
use Rattle.can_frame.specs.declared.TimedFrame.{TimedFrame}
use Rattle.ftt_io.specs.Puts.{Puts, PutsPrefix}
use Rattle.ftt_io.proofs.Shared.{Puts-append, PutsPrefix-append, PutsPrefix-longer}
use Rattle.master_core.specs.declared.event.Event.{Event}
use Rattle.bus_trace.specs.LastRows.{last_rows}
use Rattle.bus_trace.specs.Log.{events_rows, log_text}
use Rattle.sporadic_poll.specs.declared.stream.Stream.{Stream}
use Rattle.replay_run.specs.Begun.{IsRunBegun}
use Rattle.replay_run.specs.Run.{IsRun}
use Rattle.replay_run.specs.Whole.{IsHeardInPart, IsLogOf}
use Rattle.replay_run.specs.Written.{HasLastRows, IsKeptLog, IsRunCut, IsWritten, Took, TookFront}
use Rattle.replay_run.specs.declared.cut.Cut.{Cut}
use Rattle.replay_run.specs.declared.replaying.Written.{Written}
use Rattle.replay_run.proofs.Shared.{front-at}
use Rattle.handover_run.specs.HandedOver.{IsHandedLog}
use Rattle.poll_run.specs.PolledRun.{IsPolledBegun, IsPolledRun}
use Rattle.poll_run.specs.RequestRows.{request_rows}
use Rattle.poll_run.specs.Whole.{IsPollOutput, IsPolledRunBegun}
use Rattle.asked_files.specs.declared.tasks.Job.{Job}
use Rattle.asked_files.specs.declared.tasks.Task.{Task}
use Rattle.fttcan_top.specs.declared.status.Status.{Status}
use Rattle.fttcan_top.specs.declared.status.Status.TheVariants.{Done, Refused}
use Rattle.fttcan_top.specs.Ends.{IsOfReport}
use Rattle.fttcan_top.specs.Output.{IsCutWhileRun, IsLog, IsOutput, PutsPart, Tells, TellsBegun, report_if, status_of}

-- rows that begin a log begin what it begins
begins : (old new : Option (List ℕ)) (rows log behind text : List ℕ) → (rest : List ℕ) × (log ≡ rows ++ rest) → text ≡ log ++ behind
    → PutsPrefix old new rows → PutsPrefix old new text
begins old new rows log behind text (rest, is) written puts =
    subst (PutsPrefix old new) (sym (written ∙ ap (λ l. l ++ behind) is)) (PutsPrefix-longer behind (PutsPrefix-longer rest puts))

-- a run that was cut short, whose rows begin each answer
begun-cut : (Begun : List Event → List TimedFrame → Type 0) (IsText : List ℕ → Type 0) (IsAnswer : Status → List ℕ → Type 0)
    (old new : Option (List ℕ)) (why : Cut) (cut : IsHeardInPart Took TookFront Begun IsText old new why)
    → ((status : Status) (text : List ℕ) → IsAnswer status text → PutsPrefix old new (events_rows cut.trace [] cut.history) → PutsPrefix old new text)
    → TellsBegun Begun IsAnswer old new
begun-cut Begun IsText IsAnswer old new why cut longer =
    let rows = front-at why old new (events_rows cut.trace [] cut.history) cut.heard in
    record { history = cut.history; trace = cut.trace; begun = cut.begun; puts = rows; front = λ status text is. longer status text is rows }

module _ (job : Job) where
  -- a whole log with its report behind it
  whole-log : (report : Bool) (status : Status) (history : List Event) (trace : List TimedFrame) (log : List ℕ)
      → IsRun job.system job.steps job.requests history trace → log ≡ log_text history trace → status ≡ status_of history
      → IsLog job None report status (log ++ report_if report history trace job.system.owners job.requests)
  whole-log report status history trace log run same ended =
      let written = ap (λ l. l ++ report_if report history trace job.system.owners job.requests) same in
      record { history = history; trace = trace; run = run; ended = ended; written = written }

  -- a run that was cut short, or its last row, where what is asked for is its log. The rows of a run of the first calls
  -- begin the log of every run of all calls
  pub run-cut : (asked : Task) (report : Bool) (old new : Option (List ℕ)) (why : Cut)
      → ((status : Status) (text : List ℕ) → IsLog job None report status text → IsOutput asked status text)
      → (TellsBegun (IsRunBegun job.system job.steps job.requests) (IsLog job None report) old new → IsCutWhileRun asked old new)
      → ((history whole : List Event) (trace frames : List TimedFrame) → IsRunBegun job.system job.steps job.requests history trace
      → IsRun job.system job.steps job.requests whole frames → (rest : List ℕ) × (log_text whole frames ≡ events_rows trace [] history ++ rest))
      → IsRunCut (IsRunBegun job.system job.steps job.requests) (IsLogOf (IsRun job.system job.steps job.requests)) old new why
      → PutsPart asked old new
  run-cut asked report old new why answer begun front (inl cut) = inr (begun (begun-cut _ _ _ old new why cut (λ status text log.
      begins old new _ _ (report_if report log.history log.trace job.system.owners job.requests) text
      (front cut.history log.history cut.trace log.trace cut.begun log.run) log.written)))
  run-cut asked report old new why answer begun front (inr cut) =
      let is = cut.is in
      let status = status_of is.history in
      let behind = report_if report is.history is.trace job.system.owners job.requests in
      let output = answer status (cut.text ++ behind) (whole-log report status is.history is.trace cut.text is.run is.text_is refl) in
      inl (record { status = status; text = cut.text ++ behind; output = output; puts = PutsPrefix-longer behind cut.broke })

  -- a run whose master is replaced midway
  pub handed-told : (at : ℕ) (old new : Option (List ℕ)) (accepted : Bool) (status : Status)
      → IsWritten (IsHandedLog job.system job.steps job.requests accepted) old new
      → status ≡ (if accepted then Done else Refused) → Tells (Task.Handover job at) status old new
  handed-told at old new accepted status wrote ended =
      let is = wrote.is in
      let quiet = ended ∙ ap (λ (b : Bool). if b then Done else Refused) is.accepted in
      record {
        text = wrote.text ++ [];
        output = whole-log false status is.history is.trace wrote.text is.run is.text_is quiet;
        puts = subst (Puts old new) (sym (append-nil wrote.text)) wrote.heard;
      }

module _ (job : Job) (report : Bool) (run : Written) (kept : is_some run.trace ≡ report) where
  -- the report of the run
  abbrev pub rows_behind : List TimedFrame → Bool → List ℕ
  rows_behind trace so = report_if so run.master.history trace job.system.owners job.requests

  -- a log that was written whole, and its report behind it
  pub log-told : (old middle new : Option (List ℕ)) → IsWritten (IsKeptLog job.system job.steps job.requests run.master.history run.trace) old middle
      → IsOfReport run job.system.owners job.requests (Puts middle new) → Tells (Task.Log job None report) (status_of run.master.history) old new
  log-told old middle new log puts = record {
    text = log.text ++ rows_behind log.is.trace report;
    output = whole-log job report (status_of run.master.history) run.master.history log.is.trace log.text log.is.run log.is.text_is refl;
    puts = Puts-append old middle new log.text (rows_behind log.is.trace report) log.heard
        (subst (λ b. Puts middle new (rows_behind log.is.trace b)) kept (puts log.is.trace log.is.frames));
  }

  -- and one whose report was put in part
  pub report-cut : (old middle new : Option (List ℕ)) → IsWritten (IsKeptLog job.system job.steps job.requests run.master.history run.trace) old middle
      → IsOfReport run job.system.owners job.requests (PutsPrefix middle new) → PutsPart (Task.Log job None report) old new
  report-cut old middle new log puts = inl (record {
    status = status_of run.master.history;
    text = log.text ++ rows_behind log.is.trace report;
    output = whole-log job report (status_of run.master.history) run.master.history log.is.trace log.text log.is.run log.is.text_is refl;
    puts = PutsPrefix-append old middle new log.text log.heard
        (subst (λ b. PutsPrefix middle new (rows_behind log.is.trace b)) kept (puts log.is.trace log.is.frames));
  })

  -- the last rows of a log, and the report behind them
  pub tail-told : (count : ℕ) (rows behind text : List ℕ)
      → HasLastRows job.system job.steps job.requests run.master.history run.trace count rows
      → IsOfReport run job.system.owners job.requests (λ report. behind ≡ report) → text ≡ rows ++ behind
      → IsLog job (Some count) report (status_of run.master.history) text
  tail-told count rows behind text last reports all =
      let is = last.is in
      let same = reports is.trace is.frames ∙ ap (rows_behind is.trace) kept in
      let written = all ∙ ap (λ l. l ++ behind) (last.last ∙ ap (last_rows (Some count)) is.text_is)
      ∙ ap (λ l. last_rows (Some count) (log_text run.master.history is.trace) ++ l) same in
      record { history = run.master.history; trace = is.trace; run = is.run; ended = refl; written = written }

module _ (job : Job) (streams : List Stream) (old new : Option (List ℕ)) where
  -- a polled run whose text was put
  pub polled-told : (accepted : Bool) (status : Status) → IsWritten (IsPollOutput job.system job.steps streams accepted) old new
      → status ≡ (if accepted then Done else Refused) → Tells (Task.Poll job streams) status old new
  polled-told accepted status wrote ended =
      let is = wrote.is in
      let quiet = ended ∙ ap (λ (b : Bool). if b then Done else Refused) is.accepted in
      record {
        text = wrote.text;
        output = record { history = is.history; carried = is.carried; trace = is.trace; run = is.run; ended = quiet; written = is.is_text };
        puts = wrote.heard;
      }

  -- and one that was cut short, where the rows of a polled run of the first calls begin the log of every one of all calls
  pub polled-cut : (why : Cut) → ((history whole : List Event) (carried again : ℕ → ℕ → Option ℕ) (trace frames : List TimedFrame)
      → IsPolledBegun job.system job.steps streams history carried trace → IsPolledRun job.system job.steps streams whole again frames
      → (rest : List ℕ) × (log_text whole frames ≡ events_rows trace [] history ++ rest))
      → IsRunCut (IsPolledRunBegun job.system job.steps streams)
      (λ text. (quiet : Bool) × IsPollOutput job.system job.steps streams quiet text) old new why → PutsPart (Task.Poll job streams) old new
  polled-cut why front (inl cut) = inr (begun-cut _ _ _ old new why cut (λ status text is.
      begins old new _ _ (request_rows 1 streams is.written.fates) text
      (front cut.history is.history cut.begun.carried is.carried cut.trace is.trace cut.begun.begun is.run) is.written.text_is))
  polled-cut why front (inr cut) =
      let is = cut.is.1 in
      inl (record {
        status = status_of is.history;
        text = cut.text;
        output = record { history = is.history; carried = is.carried; trace = is.trace; run = is.run; ended = refl; written = is.is_text };
        puts = cut.broke;
      })
