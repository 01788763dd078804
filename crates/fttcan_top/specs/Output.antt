-- The headline's definitions: what is written for what the words and the files ask for, and what a status says.
use Rattle.std.specs.Prelude.{◌≡◌, ℕ, ◌⊎◌, ⊤, Bool, true, false, List, [], ◌++◌, length, codes, if◌then◌else◌, Option, None}
use Rattle.std.specs.Fmt.{decimal}
use Rattle.can_frame.specs.declared.TimedFrame.{TimedFrame}
use Rattle.ftt_io.specs.Puts.{Puts, PutsPrefix}
use Rattle.plan_check.specs.Breaches.{IsBreach}
use Rattle.plan_check.specs.Certificate.{CertificateView}
use Rattle.plan_check.specs.PlanKept.{IsTaken}
use Rattle.plan_check.specs.PlanText.{plan_text}
use Rattle.plan_check.specs.declared.breach.Breach.{Breach}
use Rattle.plan_check.specs.declared.breach.Breach.TheVariants.{BadLoop, NotReleased, TooWide, Missed, NotClosed}
use Rattle.bus_trace.specs.LastRows.{last_rows}
use Rattle.bus_trace.specs.Log.{events_rows, log_text}
use Rattle.plan_report.specs.Report.{report_text}
use Rattle.generated_input.specs.Generator.{requests_made, steps_made, system_made}
use Rattle.master_core.specs.Accepted.{all_accepted}
use Rattle.replay_run.specs.AskedTable.{table_of}
use Rattle.replay_run.specs.Begun.{IsRunBegun}
use Rattle.replay_run.specs.Run.{AnswersSteps, IsRun}
use Rattle.live_steps.specs.Live.{IsLive}
use Rattle.poll_run.specs.PolledRun.{IsPolledRun}
use Rattle.poll_run.specs.RequestRows.{IsPolledText}
use Rattle.poll_run.specs.Whole.{IsPolledRunBegun}
use Rattle.sporadic_poll.specs.declared.stream.Stream.{Stream}
use Rattle.async_window.specs.declared.request.Owner.{Owner}
use Rattle.async_window.specs.declared.request.Request.{Request}
use Rattle.admission.specs.Verdict.{bounds_by}
use Rattle.master_core.specs.Certificates.{IsCertificateOfPlan}
use Rattle.master_core.specs.History.{IsPlainlyLegal, placed_of, next_of, plan_of}
use Rattle.master_core.specs.declared.event.Event.{Event}
use Rattle.command_words.specs.Words.{usage}
use Rattle.fttcan_top.specs.declared.status.Status.{Status}
use Rattle.fttcan_top.specs.declared.status.Status.TheVariants.{Done, Refused, Words, Input, Read, Write, Memory, No}
use Rattle.asked_files.specs.declared.stopping.Refusal.{Refusal}
use Rattle.asked_files.specs.declared.tasks.Job.{Job}
use Rattle.asked_files.specs.declared.tasks.Task.{Task}
use Rattle.asked_files.specs.Refusals.{refusal_line}
use Rattle.fttcan_top.specs.Summary.{summary_text}
use Rattle.planner_policies.specs.Plan.{pending_at}
use Rattle.admission_rules.specs.declared.Rules.{Rules}
use Rattle.elastic.specs.Choice.{IsChoice, IsElasticFault}
use Rattle.elastic.specs.ChoiceRows.{IsFaultText, choice_row}
use Rattle.elastic.specs.declared.choice.Choice.{Choice}
use Rattle.elastic.specs.declared.choice.ElasticFault.{ElasticFault}
use Rattle.elastic.specs.declared.wish.Wish.{Wish}
use Rattle.log_reader.specs.Row.{AreRowsOf}
use Rattle.log_reader.specs.declared.row.LogRow.{LogRow}
use Rattle.trace_audit.specs.Audit.{IsAudited, IsFirstBreak, IsUnfinished}

-- What is written

-- how a run ends: refused where some change was refused
abbrev pub status_of : List Event → Status
status_of history = if all_accepted history then Done else Refused

-- the report of a run, where it is asked for
abbrev pub report_if : Bool → List Event → List TimedFrame → List Owner → List Request → List ℕ
report_if report history trace owners requests = if report then report_text history trace owners requests else []

-- the log of a run, or so many of its last rows, and the report behind it where that is asked for: the history answers
-- the steps, and history and trace keep what is promised
pub record IsLog (job : Job) (tail : Option ℕ) (report : Bool) (status : Status) (text : List ℕ) : Type 0 where
  pub history : List Event
  pub trace : List TimedFrame
  pub run : IsRun job.system job.steps job.requests history trace
  pub ended : status ≡ status_of history
  pub written : text ≡ last_rows tail (log_text history trace)
      ++ report_if report history trace job.system.owners job.requests

-- the plan of the table that stands when a master has answered the steps: from cycle 0 on, and it keeps that table for
-- ever
pub record IsPlanText (job : Job) (status : Status) (text : List ℕ) : Type 0 where
  pub history : List Event
  pub answers : AnswersSteps history job.steps
  pub plain : IsPlainlyLegal job.system.rules history
  pub certificate : CertificateView
  pub made : IsCertificateOfPlan job.system.rules history certificate
  pub taken : IsTaken (placed_of history) job.system.rules.window certificate
  pub ended : status ≡ status_of history
  pub written : text ≡ plan_text certificate

-- the line of a breach
abbrev pub breach_line : Breach → List ℕ
breach_line (BadLoop slot) = codes "no,badloop," ++ decimal slot ++ codes "\n"
breach_line (NotReleased cycle slot) =
    codes "no,notreleased," ++ (decimal cycle ++ (codes "," ++ (decimal slot ++ codes "\n")))
breach_line (TooWide cycle sum) = codes "no,toowide," ++ (decimal cycle ++ (codes "," ++ (decimal sum ++ codes "\n")))
breach_line (Missed slot release cycle) =
    codes "no,missed,"
    ++ (decimal slot ++ (codes "," ++ (decimal release ++ (codes "," ++ (decimal cycle ++ codes "\n")))))
breach_line (NotClosed slot) = codes "no,notclosed," ++ decimal slot ++ codes "\n"

-- why a plan does not keep the table that the steps ask for
pub record IsRefuted (job : Job) (certificate : CertificateView) (text : List ℕ) : Type 0 where
  pub breach : Breach
  pub first : IsBreach (table_of (bounds_by job.system.rules) job.steps).placed job.system.rules.window certificate breach
  pub written : text ≡ breach_line breach

-- the answer to a plan: it keeps the table that the steps ask for, or the first breach
abbrev pub IsCheckText : Job → CertificateView → Status → List ℕ → Type 0
IsCheckText job certificate Done text =
    IsTaken (table_of (bounds_by job.system.rules) job.steps).placed job.system.rules.window certificate
    × (text ≡ codes "yes\n")
IsCheckText job certificate No text = IsRefuted job certificate text
IsCheckText job certificate _ text = ⊥

-- the summary of the run of the input that a number makes: the history answers its steps, and history and trace keep
-- what is promised; the call is done also where a change was refused
pub record IsSummary (number : ℕ) (status : Status) (text : List ℕ) : Type 0 where
  pub history : List Event
  pub trace : List TimedFrame
  pub run : IsRun (system_made number) (steps_made number) (requests_made number) history trace
  pub ended : status ≡ Done
  pub written : text ≡ summary_text number history trace (length (requests_made number))

-- the log of a run by threads, and the report behind it where that is asked for: the history answers the steps of each
-- operator, in whatever order they came, and history and trace keep what is promised
pub record IsLiveLog (job : Job) (report : Bool) (status : Status) (text : List ℕ) : Type 0 where
  pub history : List Event
  pub trace : List TimedFrame
  pub run : IsLive job.system job.steps job.requests history trace
  pub ended : status ≡ status_of history
  pub written : text ≡ log_text history trace ++ report_if report history trace job.system.owners job.requests

-- the log of a run whose polled slots carry requests, and behind it what became of each request: the history answers the
-- steps, the requests are carried by *Ride*, and history and trace keep what is promised
pub record IsPollText (job : Job) (streams : List Stream) (status : Status) (text : List ℕ) : Type 0 where
  pub history : List Event
  pub carried : ℕ → ℕ → Option ℕ
  pub trace : List TimedFrame
  pub run : IsPolledRun job.system job.steps streams history carried trace
  pub ended : status ≡ status_of history
  pub written : IsPolledText streams history carried trace text

-- the slots that are pending before the next cycle of a master with these rules and this history
abbrev pub pending_behind : Rules → List Event → ℕ
pending_behind rules history = pending_at (plan_of rules (placed_of history)) (next_of history)

-- a master alone has answered the steps, which has this history now
pub record IsBehindSteps (job : Job) (history : List Event) : Type 0 where
  pub answers : AnswersSteps history job.steps
  pub plain : IsPlainlyLegal job.system.rules history

-- the row of what is chosen behind the steps
pub record IsChosen (job : Job) (wish : Wish) (text : List ℕ) : Type 0 where
  pub history : List Event
  pub behind : IsBehindSteps job history
  pub choice : Choice
  pub chosen : IsChoice job.system.rules (placed_of history) (pending_behind job.system.rules history) (next_of history)
      wish choice
  pub written : text ≡ choice_row choice

-- the rows of why nothing is chosen behind the steps
pub record IsUnchosen (job : Job) (wish : Wish) (text : List ℕ) : Type 0 where
  pub history : List Event
  pub behind : IsBehindSteps job history
  pub fault : ElasticFault
  pub why : IsElasticFault job.system.rules (placed_of history) (pending_behind job.system.rules history)
      (next_of history) wish fault
  pub written : IsFaultText fault text

-- the answer to a wish: done where something is chosen, and refused where nothing is; what became of the changes of the
-- steps does not count
abbrev pub IsChoiceText : Job → Wish → Status → List ℕ → Type 0
IsChoiceText job wish Done text = IsChosen job wish text
IsChoiceText job wish Refused text = IsUnchosen job wish text
IsChoiceText job wish _ text = ⊥

-- what an audit says of these rows: that they are all rows of a whole run; or the least number of first rows that
-- cannot stand; or that all rows can stand, and are not all rows of a whole run
abbrev pub SaysOfRows : Job → List LogRow → Status → List ℕ → Type 0
SaysOfRows job rows Done text = IsAudited job.system job.steps job.requests rows × (text ≡ codes "yes\n")
SaysOfRows job rows No text =
    ((number : ℕ) × IsFirstBreak job.system job.steps job.requests rows number
    × (text ≡ codes "no,row," ++ decimal number ++ codes "\n"))
    ⊎ (IsUnfinished job.system job.steps job.requests rows × (text ≡ codes "no,unfinished\n"))
SaysOfRows job rows _ text = ⊥

-- the answer to a log: what is said of the rows that are read from it
pub record IsAuditText (job : Job) (log : List ℕ) (status : Status) (text : List ℕ) : Type 0 where
  pub rows : List LogRow
  pub read : AreRowsOf log rows
  pub says : SaysOfRows job rows status text

-- *Output*: the text that answers what is asked, with the status of the call; that of a run whose master is replaced
-- midway is the log of the replay of the same files, whenever the standby takes over
abbrev pub IsOutput : Task → Status → List ℕ → Type 0
IsOutput (Task.Log job tail report) status text = IsLog job tail report status text
IsOutput (Task.Handover job at) status text = IsLog job None false status text
IsOutput (Task.Summary number) status text = IsSummary number status text
IsOutput (Task.Table job) status text = IsPlanText job status text
IsOutput (Task.Check job certificate) status text = IsCheckText job certificate status text
IsOutput (Task.Choice job wish) status text = IsChoiceText job wish status text
IsOutput (Task.Live job report) status text = IsLiveLog job report status text
IsOutput (Task.Audit job log) status text = IsAuditText job log status text
IsOutput (Task.Poll job streams) status text = IsPollText job streams status text

-- the output was put, and the status is that of what was asked
pub record Tells (asked_for : Task) (status : Status) (old new : Option (List ℕ)) : Type 0 where
  pub text : List ℕ
  pub output : IsOutput asked_for status text
  pub puts : Puts old new text

-- the first bytes of the output were put, or nothing was
pub record TellsFront (asked_for : Task) (old new : Option (List ℕ)) : Type 0 where
  pub status : Status
  pub text : List ℕ
  pub output : IsOutput asked_for status text
  pub puts : PutsPrefix old new text

-- a run was cut short. `Begun` says that a history and a trace are those of a run of the first calls of its steps.
-- `IsText` says that a text is the output of a run of all calls. The run had answered the first calls. What was put are
-- the first bytes of its rows, and the first bytes of the output of every run of all calls
pub record TellsBegun (Begun : List Event → List TimedFrame → Type 0) (IsText : Status → List ℕ → Type 0)
    (old new : Option (List ℕ)) : Type 0 where
  pub history : List Event
  pub trace : List TimedFrame
  pub begun : Begun history trace
  pub puts : PutsPrefix old new (events_rows trace [] history)
  pub front : (status : Status) (text : List ℕ) → IsText status text → PutsPrefix old new text

-- this may be so of a whole log alone, or of that of a handover or a polled run. These are written during the run
abbrev pub IsCutWhileRun : Task → Option (List ℕ) → Option (List ℕ) → Type 0
IsCutWhileRun (Task.Log job None report) old new =
    TellsBegun (IsRunBegun job.system job.steps job.requests) (IsLog job None report) old new
IsCutWhileRun (Task.Handover job at) old new =
    TellsBegun (IsRunBegun job.system job.steps job.requests) (IsLog job None false) old new
IsCutWhileRun (Task.Poll job streams) old new =
    TellsBegun (IsPolledRunBegun job.system job.steps streams) (IsPollText job streams) old new
IsCutWhileRun _ old new = ⊥

-- whether what is asked for is written while its run goes on
abbrev pub is_streamed : Task → Bool
is_streamed (Task.Log job None report) = true
is_streamed (Task.Handover job at) = true
is_streamed (Task.Poll job streams) = true
is_streamed _ = false

-- the first part of an answer was put: its first bytes, or the first ones of the rows of a run that was cut short
abbrev pub PutsPart : Task → Option (List ℕ) → Option (List ℕ) → Type 0
PutsPart asked_for old new = TellsFront asked_for old new ⊎ IsCutWhileRun asked_for old new

-- What a status says

-- what was asked was done
abbrev pub IsDoneStatus : Status → Type 0
IsDoneStatus Done = ⊤
IsDoneStatus Refused = ⊤
IsDoneStatus No = ⊤
IsDoneStatus _ = ⊥

-- the exit status of each way in which a call ends
abbrev pub code_of : Status → ℕ
code_of Done = 0
code_of Refused = 1
code_of Words = 2
code_of Input = 3
code_of Read = 4
code_of Write = 5
code_of Memory = 6
code_of No = 7

-- What is put to the error sink

-- the lines of a status; where it is that of a refused file, for this refusal
abbrev pub message_of : Status → Refusal → List ℕ
message_of Done refusal = []
message_of Refused refusal = []
message_of Words refusal = usage
message_of Input refusal = refusal_line refusal
message_of Read refusal = codes "read fault\n"
message_of Write refusal = codes "write fault\n"
message_of Memory refusal = codes "out of memory\n"
message_of No refusal = []

-- the text was put to a sink, or its count of faults rose and the first bytes of the text were put
abbrev pub Says : Option (List ℕ) → Option (List ℕ) → Type 0 → List ℕ → Type 0
Says old new rose text = Puts old new text ⊎ (rose × PutsPrefix old new text)
