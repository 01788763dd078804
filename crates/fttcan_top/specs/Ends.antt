-- How a call ends: done with a status or stopped for a reason, and for each status what the call did.
use Rattle.std.specs.Prelude.{◌≡◌, ◌≤◌, ◌⊎◌, ℕ, List, length, Option, None, Result, Ok, Err, is_some}
use Rattle.can_frame.specs.declared.TimedFrame.{TimedFrame}
use Rattle.async_window.specs.declared.request.Owner.{Owner}
use Rattle.async_window.specs.declared.request.Request.{Request}
use Rattle.ftt_io.specs.Counts.{Rose}
use Rattle.ftt_io.specs.Files.{NamedFiles}
use Rattle.command_words.specs.Words.{Command}
use Rattle.replay_run.specs.Progress.{KeepsFrames}
use Rattle.replay_run.specs.declared.replaying.Written.{Written}
use Rattle.asked_files.specs.Asked.{IsAskedFor, IsNotAsked}
use Rattle.asked_files.specs.Loads.{IsFetched, sources_of}
use Rattle.asked_files.specs.declared.stopping.Refusal.{Refusal}
use Rattle.asked_files.specs.declared.stopping.Stop.{Stop}
use Rattle.asked_files.specs.declared.stopping.Stop.TheVariants.{Words, Input, Read, Write, Memory}
use Rattle.asked_files.specs.declared.tasks.Task.{Task}
use Rattle.fttcan_top.specs.declared.status.Status.{Status}
use Rattle.fttcan_top.specs.Output.{PutsPart, Says, Tells, message_of, report_if}

-- this is so of the report of a run, where its frames were kept, and of no text otherwise, whatever its trace is
abbrev pub IsOfReport : Written → List Owner → List Request → (List ℕ → Type 0) → Type 0
IsOfReport run owners requests IsSo =
    (trace : List TimedFrame) → KeepsFrames run.trace trace
    → IsSo (report_if (is_some run.trace) run.master.history trace owners requests)

-- the status of a call that ended so
abbrev pub end_status : Result Status Stop → Status
end_status (Ok status) = status
end_status (Err Words) = Status.Words
end_status (Err (Input refusal)) = Status.Input
end_status (Err Read) = Status.Read
end_status (Err Write) = Status.Write
end_status (Err Memory) = Status.Memory

-- the call tells this status; memory may run out for the line of a refused file
abbrev pub IsStatusOf : Result Status Stop → Status → Type 0
IsStatusOf ended status =
    (status ≡ end_status ended) ⊎ ((end_status ended ≡ Status.Input) × (status ≡ Status.Memory))

-- the refusal for which a call stopped; any one where it did not stop for one
abbrev pub refusal_of : Result Status Stop → Refusal
refusal_of (Err (Input refusal)) = refusal
refusal_of _ = Refusal.LaterPlan

-- this was asked for, and carried out so: its answer was put, or the first part of it, or nothing
abbrev pub IsCarried : Task → Type 0 → Option (List ℕ) → Option (List ℕ) → Result Status Stop → Type 0
IsCarried asked_for out_rose old new (Ok status) = Tells asked_for status old new
IsCarried asked_for out_rose old new (Err Write) = out_rose × ((new ≡ old) ⊎ PutsPart asked_for old new)
IsCarried asked_for out_rose old new (Err Memory) = (new ≡ old) ⊎ PutsPart asked_for old new
IsCarried asked_for out_rose old new (Err _) = ⊥

-- What a call did whose words ask for `called`, where `told` are the files, where they are told, `before` and `behind`
-- are the counts of fetches, `shelf_rose` and `out_rose` say that a count of faults rose, and `old` and `new` are what
-- the output tells
module _ (called : Option Command) (told : Option NamedFiles) (before behind : ℕ) (shelf_rose out_rose : Type 0)
    (old new : Option (List ℕ)) where
  -- it was asked for nothing, for this reason, and put nothing
  abbrev pub IsStoppedStatus : Stop → Type 0
  IsStoppedStatus why = IsNotAsked called shelf_rose told before behind why × (new ≡ old)

  -- it was asked for something, and put the whole answer, which has this status
  abbrev pub IsAnsweredWhole : Status → Type 0
  IsAnsweredWhole status =
      (asked_for : Task) × IsAskedFor called told before behind asked_for × Tells asked_for status old new

  -- it was asked for something, and was cut short: it put the first part of the answer, or nothing
  abbrev pub IsAnswerCut : Type 0
  IsAnswerCut =
      (asked_for : Task) × IsAskedFor called told before behind asked_for × ((new ≡ old) ⊎ PutsPart asked_for old new)

  -- *What a call did* that ends with this status, and where a file is refused with this refusal
  abbrev pub Did : Status → Refusal → Type 0
  Did Status.Done refusal = IsAnsweredWhole Status.Done
  Did Status.Refused refusal = IsAnsweredWhole Status.Refused
  Did Status.No refusal = IsAnsweredWhole Status.No
  Did Status.Words refusal = IsStoppedStatus Words
  Did Status.Input refusal = IsStoppedStatus (Input refusal)
  Did Status.Read refusal = IsStoppedStatus Read
  Did Status.Write refusal = out_rose × IsAnswerCut
  Did Status.Memory refusal = IsStoppedStatus Memory ⊎ IsAnswerCut

-- the same of a call that ended so
pub record Ended (called : Option Command) (told : Option NamedFiles) (before behind : ℕ) (shelf_rose out_rose : Type 0)
    (old new : Option (List ℕ)) (ended : Result Status Stop) : Type 0 where
  pub did : Did called told before behind shelf_rose out_rose old new (end_status ended) (refusal_of ended)

-- *What a top call says*, of a shelf and of two sinks that show their files, their bytes and their counts so: what it
-- did, and that it put the lines of its status to the second sink. Words that ask for nothing are told, or memory ran
-- out. The files stay, no count falls, and no more fetches are made than the words name files
pub record Answers (called : Option Command) (told told_after : Option NamedFiles)
    (fetches fetches_after faults faults_after : ℕ) (out out_after : Option (List ℕ)) (out_faults out_faults_after : ℕ)
    (err err_after : Option (List ℕ)) (err_faults err_faults_after : ℕ) (status : Status) : Type 0 where
  pub refusal : Refusal
  pub did : Did called told fetches fetches_after (Rose faults faults_after) (Rose out_faults out_faults_after) out
      out_after status refusal
  pub command : called ≡ None → (status ≡ Status.Words) ⊎ (status ≡ Status.Memory)
  pub message : Says err err_after (Rose err_faults err_faults_after) (message_of status refusal)
  pub shelf : IsFetched told told_after fetches fetches_after faults faults_after (length (sources_of called))
  pub out_faults_never_fall : out_faults ≤ out_faults_after
  pub err_faults_never_fall : err_faults ≤ err_faults_after
