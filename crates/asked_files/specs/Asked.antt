-- What the words and the files ask for.
use Rattle.std.specs.Prelude.{◌≡◌, ⊤, ℕ, Bool, true, false, List, [], Option, Some, None, Result, Ok, Err, option_map, unwrap_or}
use Rattle.std.specs.Option.{ForSome}
use Rattle.ftt_io.specs.Files.{NamedFiles}
use Rattle.async_window.specs.declared.request.Request.{Request}
use Rattle.system_file.specs.SystemFile.{IsSystem}
use Rattle.system_file.specs.declared.system.System.{System}
use Rattle.steps_file.specs.declared.steps.Step.{Step}
use Rattle.requests_file.specs.RequestsFile.{AreLegal}
use Rattle.steps_file.specs.StepsFile.{AreLegalSteps}
use Rattle.sporadic_poll.specs.StreamsFile.{AreLegalStreams}
use Rattle.command_words.specs.Words.{Command}
use Rattle.command_words.specs.declared.table.Verb.{Verb}
use Rattle.asked_files.specs.declared.inputs.Inputs.{Inputs}
use Rattle.asked_files.specs.declared.stopping.Stop.{Stop}
use Rattle.asked_files.specs.declared.stopping.Stop.TheVariants.{Words}
use Rattle.asked_files.specs.declared.tasks.Job.{Job}
use Rattle.asked_files.specs.declared.tasks.Task.{Task}
use Rattle.asked_files.specs.Loads.{IsHeldUp, count_behind, sources_of}
use Rattle.asked_files.specs.Inputs.{AreFilesRead, IsLogText, IsThen, IsToCheck, IsToChoose, MayBeRead, nothing_read}

-- What a command asks for with what its files hold

-- the run of a system and steps that were read; without requests where none were
abbrev pub job_of : Option System → Option (List Step) → Option (List Request) → Option Job
job_of (Some system) (Some steps) requests =
    Some (record { system = system; steps = steps; requests = unwrap_or requests [] })
job_of _ _ requests = None

abbrev pub job_in : Inputs → Option Job
job_in inputs = job_of inputs.system inputs.steps inputs.requests

-- what a command asks for of a run, and of one more thing that was read
abbrev pub asked_by : Verb → Command → Option Job → Inputs → Option Task
asked_by Verb.Generate command job inputs = Some (Task.Summary command.number)
asked_by Verb.Replay command (Some job) inputs = Some (Task.Log job command.tail command.report)
asked_by Verb.Admit command (Some job) inputs = Some (Task.Table job)
asked_by Verb.Check command (Some job) inputs = option_map (Task.Check job) inputs.plan
asked_by Verb.Live command (Some job) inputs = Some (Task.Live job command.report)
asked_by Verb.Audit command (Some job) inputs = option_map (Task.Audit job) inputs.log
asked_by Verb.Handover command (Some job) inputs = Some (Task.Handover job command.number)
asked_by Verb.Poll command (Some job) inputs = option_map (Task.Poll job) inputs.streams
asked_by Verb.Elastic command (Some job) inputs = option_map (Task.Choice job) inputs.wish
asked_by _ command None inputs = None

abbrev pub asked_with : Command → Inputs → Option Task
asked_with command inputs = asked_by command.verb command (job_in inputs) inputs

-- What is asked for

-- these files, read one after the other, give what a command asks for: the first that stops decides
pub record IsAskedOf (files : NamedFiles) (command : Command) (asked_for : Result Task Stop) : Type 0 where
  pub inputs : Result Inputs Stop
  pub read : AreFilesRead files command.files nothing_read inputs
  pub is : IsThen inputs (λ held result. option_map Ok (asked_with command held) ≡ Some result) asked_for

-- *Input meaning*: what is asked of the files by words that ask for a command, or for none
abbrev pub IsAskedBy : NamedFiles → Option Command → Result Task Stop → Type 0
IsAskedBy files None asked_for = asked_for ≡ Err Words
IsAskedBy files (Some command) asked_for = IsAskedOf files command asked_for

-- What the words say of it, whatever the files hold

-- what the words of a command say of what it asks for. Its files may hold what gives it: which kind of answer, how many
-- last rows of the log, whether a report, and for which number is what the words say, all that was read is legal, and
-- nothing is asked that is in no file
pub record IsOfCommand (command : Command) (asked_for : Task) : Type 0 where
  pub inputs : Inputs
  pub read : MayBeRead command.files nothing_read inputs
  pub is : asked_with command inputs ≡ Some asked_for

-- *Of these words*: the same of words that ask for a command, or for none
abbrev pub IsOfCalled : Option Command → Task → Type 0
IsOfCalled None asked_for = ⊥
IsOfCalled (Some command) asked_for = IsOfCommand command asked_for

-- A call whose words ask for `called`, where `told` are the files, where they are told, and `before` and `behind` are
-- the counts of fetches

-- it is asked for this: by its files, where they are told, and by its words, whatever the files hold. It fetched all
-- files that the words name, each once
pub record IsAskedFor (called : Option Command) (told : Option NamedFiles) (before behind : ℕ) (asked_for : Task)
    : Type 0 where
  pub asks : ForSome told (λ files. IsAskedBy files called (Ok asked_for))
  pub of_words : IsOfCalled called asked_for
  pub fetched : behind ≡ count_behind before (sources_of called)

-- it is asked for nothing, for this reason
abbrev pub IsNotAsked : Option Command → Type 0 → Option NamedFiles → ℕ → ℕ → Stop → Type 0
IsNotAsked called rose told before behind why =
    IsHeldUp (called ≡ None) rose told (λ files. IsAskedBy files called) (sources_of called) before behind why

-- what holds of each job
pub record IsJob (job : Job) : Type 0 where
  pub system : IsSystem job.system
  pub steps : AreLegalSteps job.steps
  pub requests : AreLegal job.system.owners job.requests

-- whether it is carried out by threads
abbrev pub is_live : Task → Bool
is_live (Task.Live job report) = true
is_live _ = false

-- what holds of each task
abbrev pub IsTask : Task → Type 0
IsTask (Task.Log job tail report) = IsJob job
IsTask (Task.Table job) = IsJob job
IsTask (Task.Check job certificate) = IsJob job × IsToCheck certificate
IsTask (Task.Summary number) = ⊤
IsTask (Task.Live job report) = IsJob job
IsTask (Task.Choice job wish) = IsJob job × IsToChoose wish
IsTask (Task.Handover job at) = IsJob job
IsTask (Task.Audit job text) = IsJob job × IsLogText text
IsTask (Task.Poll job streams) = IsJob job × AreLegalStreams job.system.rules.slots streams
