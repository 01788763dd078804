-- What was read of the files of a row of the table is what its command needs, and it is legal.
use Rattle.std.proofs.Common.{◌≡◌, ◌∙◌, ℕ, List, [], ◌∷◌, Option, Some, None, Result, Ok, Err, refl, sym, ap, arith, codes, inl, inr, option_map, rules, subst, unwrap_or}
use Rattle.std.specs.Prelude.{◌⊎◌, IsErrOf}
use Rattle.std.specs.Result.{IsErrAnd}
use Rattle.std.proofs.lemmas.Option.{same_Some}
use Rattle.ftt_io.specs.Files.{NamedFiles}
use Rattle.requests_file.specs.RequestsFile.{AreLegal}
use Rattle.steps_file.specs.StepsFile.{AreLegalSteps}
use Rattle.steps_file.specs.declared.steps.Step.{Step}
use Rattle.system_file.specs.SystemFile.{IsSystem}
use Rattle.system_file.specs.declared.system.System.{System}
use Rattle.async_window.specs.declared.request.Owner.{Owner}
use Rattle.async_window.specs.declared.request.Request.{Request}
use Rattle.command_words.specs.Words.{Command, Found, IsOfRow, NamedSource, command_meant, file_if, file_of, needs_threads, word_if}
use Rattle.command_words.specs.WordsRead.{ExplainsWords}
use Rattle.command_words.specs.declared.words.WordsFault.{WordsFault}
use Rattle.command_words.specs.declared.words.WordsFault.TheVariants as words
use Rattle.command_words.specs.declared.table.Source.{Source}
use Rattle.command_words.specs.declared.table.Verb.{Verb}
use Rattle.asked_files.specs.declared.inputs.Content.{Content}
use Rattle.asked_files.specs.declared.inputs.Inputs.{Inputs}
use Rattle.asked_files.specs.declared.tasks.Job.{Job}
use Rattle.asked_files.specs.declared.stopping.Stop.{Stop}
use Rattle.asked_files.specs.declared.tasks.Task.{Task}
use Rattle.asked_files.specs.Asked.{IsAskedFor, IsAskedOf, IsJob, IsNotAsked, IsTask, asked_by, asked_with, is_live, job_in}
use Rattle.asked_files.specs.Inputs.{AreFilesRead, MayBeRead, nothing_read, owners_in}
use Rattle.asked_files.specs.Loads.{AreAllRead, IsHeldUp, sources_of, stop_of_words}
use Rattle.asked_files.proofs.FetchLemmas.{barred-behind}

-- what was read of a command gives what it asks for, which is legal
record Gives (verb : Verb) (command : Command) (inputs : Inputs) : Type 0 where
  pub task : Task
  pub is : asked_by verb command (job_in inputs) inputs ≡ Some task
  pub legal : IsTask task
  pub live : is_live task ≡ needs_threads verb

-- after a system and steps were read
abbrev begun : System → List Step → Inputs
begun system steps = record nothing_read { system = Some system; steps = Some steps }

-- what follows where a system and steps were read first
begun-read : {G : Type 0} (left : List NamedSource) (inputs : Inputs)
    → ((system : System) (steps : List Step) → IsSystem system → AreLegalSteps steps → MayBeRead left (begun system steps) inputs → G)
    → MayBeRead (file_of Source.System [] ∷ file_of Source.Steps [] ∷ left) nothing_read inputs → G
begun-read left inputs gives (Content.System system, is, (Content.Steps steps, are, more)) = gives system steps is are more
begun-read left inputs gives (Content.System system, is, (_, are, more)) = absurd are
begun-read left inputs gives (_, is, more) = absurd is

-- no requests are legal for any owners
no-requests : (owners : List Owner) → AreLegal owners []
no-requests owners = record { each = search rules; in_order = search rules; few = omega arith }

-- these requests were read last, or none
record AreRequestsRead (before after : Inputs) : Type 0 where
  pub requests : Option (List Request)
  pub same : after ≡ record before { requests = requests }
  pub legal : AreLegal (owners_in before) (unwrap_or requests [])

requests-read : (before after : Inputs) (name : Option (List ℕ)) → before ≡ record before { requests = None }
    → MayBeRead (file_if Source.Requests name) before after → AreRequestsRead before after
requests-read before after None none same =
    record { requests = None; same = same ∙ none; legal = no-requests (owners_in before) }
requests-read before after (Some name) none (Content.Requests requests, are, same) =
    record { requests = Some requests; same = same; legal = are }
requests-read before after (Some name) none (_, are, same) = absurd are

module _ (command : Command) (inputs : Inputs) (name : Option (List ℕ)) (system : System) (steps : List Step)
    (is_system : IsSystem system) (are_steps : AreLegalSteps steps) where
  -- the run with no requests
  abbrev alone : Job
  alone = record { system = system; steps = steps; requests = [] }

  alone-legal : IsJob alone
  alone-legal = record { system = is_system; steps = are_steps; requests = no-requests system.owners }

  check-read : MayBeRead (file_of Source.Plan [] ∷ []) (begun system steps) inputs → Gives Verb.Check command inputs
  check-read (Content.Plan plan, is, same) =
      record { task = Task.Check alone plan; is = ap (λ it. asked_by Verb.Check command (job_in it) it) same; legal = (alone-legal, is); live = refl }
  check-read (_, is, same) = absurd is

  elastic-read : MayBeRead (file_of Source.Wishes [] ∷ []) (begun system steps) inputs → Gives Verb.Elastic command inputs
  elastic-read (Content.Wish wish, is, same) =
      record { task = Task.Choice alone wish; is = ap (λ it. asked_by Verb.Elastic command (job_in it) it) same; legal = (alone-legal, is); live = refl }
  elastic-read (_, is, same) = absurd is

  poll-read : MayBeRead (file_of Source.Streams [] ∷ []) (begun system steps) inputs → Gives Verb.Poll command inputs
  poll-read (Content.Streams streams, are, same) =
      record { task = Task.Poll alone streams; is = ap (λ it. asked_by Verb.Poll command (job_in it) it) same; legal = (alone-legal, are); live = refl }
  poll-read (_, is, same) = absurd is

  audit-read : MayBeRead (file_of Source.Log [] ∷ file_if Source.Requests name) (begun system steps) inputs → Gives Verb.Audit command inputs
  audit-read (Content.Log text, is, more) =
      let last = requests-read (record (begun system steps) { log = Some text }) inputs name refl more in
      record {
        task = Task.Audit (record { system = system; steps = steps; requests = unwrap_or last.requests [] }) text;
        is = ap (λ it. asked_by Verb.Audit command (job_in it) it) last.same;
        legal = (record { system = is_system; steps = are_steps; requests = last.legal }, is);
        live = refl;
      }
  audit-read (_, is, more) = absurd is

  -- a command that asks for a run alone
  run-read : (verb : Verb) (ask : Job → Task) → ((job : Job) → asked_by verb command (Some job) inputs ≡ Some (ask job))
      → ((job : Job) → IsJob job → IsTask (ask job)) → ((job : Job) → is_live (ask job) ≡ needs_threads verb)
      → MayBeRead (file_if Source.Requests name) (begun system steps) inputs → Gives verb command inputs
  run-read verb ask asks legal live more =
      let last = requests-read (begun system steps) inputs name refl more in
      let job : Job = record { system = system; steps = steps; requests = unwrap_or last.requests [] } in
      record {
        task = ask job;
        is = ap (λ it. asked_by verb command (job_in it) inputs) last.same ∙ asks job;
        legal = legal job (record { system = is_system; steps = are_steps; requests = last.legal });
        live = live job;
      }

gives-row : (verb : Verb) (rows : Found) (inputs : Inputs)
    → MayBeRead (command_meant verb rows).files nothing_read inputs → Gives verb (command_meant verb rows) inputs
unfolding command_meant
gives-row Verb.Replay rows inputs read =
    let command = command_meant Verb.Replay rows in
    let name = word_if (codes "requests") rows in
    begun-read (file_if Source.Requests name) inputs (λ system steps is are. run-read command inputs name system steps is are Verb.Replay
    (λ job. Task.Log job command.tail command.report) (λ job. refl) (λ job legal. legal) (λ job. refl)) read
gives-row Verb.Admit rows inputs read =
    begun-read [] inputs (λ system steps is are. run-read (command_meant Verb.Admit rows) inputs None system steps is are Verb.Admit
    (λ job. Task.Table job) (λ job. refl) (λ job legal. legal) (λ job. refl)) read
gives-row Verb.Check rows inputs read =
    begun-read (file_of Source.Plan [] ∷ []) inputs (check-read (command_meant Verb.Check rows) inputs None) read
gives-row Verb.Generate rows inputs read =
    record { task = Task.Summary (command_meant Verb.Generate rows).number; is = refl; legal = tt; live = refl }
gives-row Verb.Live rows inputs read =
    let command = command_meant Verb.Live rows in
    let name = word_if (codes "requests") rows in
    begun-read (file_if Source.Requests name) inputs (λ system steps is are. run-read command inputs name system steps is are Verb.Live
    (λ job. Task.Live job command.report) (λ job. refl) (λ job legal. legal) (λ job. refl)) read
gives-row Verb.Audit rows inputs read =
    let name = word_if (codes "requests") rows in
    begun-read (file_of Source.Log [] ∷ file_if Source.Requests name) inputs (audit-read (command_meant Verb.Audit rows) inputs name) read
gives-row Verb.Handover rows inputs read =
    let command = command_meant Verb.Handover rows in
    let name = word_if (codes "requests") rows in
    begun-read (file_if Source.Requests name) inputs (λ system steps is are. run-read command inputs name system steps is are
    Verb.Handover (λ job. Task.Handover job command.number) (λ job. refl) (λ job legal. legal) (λ job. refl)) read
gives-row Verb.Poll rows inputs read =
    begun-read (file_of Source.Streams [] ∷ []) inputs (poll-read (command_meant Verb.Poll rows) inputs None) read
gives-row Verb.Elastic rows inputs read =
    begun-read (file_of Source.Wishes [] ∷ []) inputs (elastic-read (command_meant Verb.Elastic rows) inputs None) read

-- so does what was read of a command of the table
gives : (verb : Verb) (command : Command) (inputs : Inputs) → IsOfRow verb command
    → MayBeRead command.files nothing_read inputs → Gives verb command inputs
gives verb command inputs (rows, same) read =
    subst (λ it. Gives verb it inputs) (sym same)
    (gives-row verb rows inputs (subst (λ it. MayBeRead it.files nothing_read inputs) same read))

-- What a command asks for whose files were fetched
module _ (command : Command) (told : Option NamedFiles) (before behind : ℕ) where
  -- all of them were read, and this is its task
  pub record IsLoaded (task : Task) : Type 0 where
    pub legal : IsTask task
    pub threads : is_live task ≡ needs_threads command.verb
    pub asked : IsAskedFor (Some command) told before behind task

  pub loaded : (inputs : Inputs) → IsOfRow command.verb command → AreAllRead told command.files before behind inputs
      → (task : Task) → Some task ≡ asked_with command inputs → IsLoaded task
  loaded inputs row all task is =
      let given = gives command.verb command inputs row all.may in
      let same : task ≡ given.task = same_Some task given.task (is ∙ given.is) in
      record {
        legal = subst IsTask (sym same) given.legal;
        threads = ap is_live same ∙ given.live;
        asked = record {
          asks = λ files tells. record { inputs = Ok inputs; read = all.read files tells; is = ap (option_map Ok) (sym is) };
          of_words = record { inputs = inputs; read = all.may; is = sym is };
          fetched = all.counted;
        };
      }

  -- there is always a task
  pub never-none : (inputs : Inputs) → IsOfRow command.verb command → AreAllRead told command.files before behind inputs
      → None ≡ asked_with command inputs → ⊥
  never-none inputs row all none =
      let given = gives command.verb command inputs row all.may in
      let both : ◌≡◌ {A = Option Task} None (Some given.task) = none ∙ given.is in
      cc

  -- one of them stopped it
  pub not-loaded : (rose : Type 0) (why : Stop)
      → IsHeldUp ⊥ rose told (λ files. AreFilesRead files command.files nothing_read) command.files before behind why
      → IsNotAsked (Some command) rose told before behind why
  not-loaded rose why is = record {
    barred = barred-behind (Some command ≡ None) rose rose told (λ files. AreFilesRead files command.files nothing_read)
        (λ files. IsAskedOf files command) (λ fault. fault)
        (λ files tells stopped read. record { inputs = Err stopped; read = read; is = refl }) why is.barred;
    fetched = is.fetched;
  }

-- words that ask for nothing stop a call before it fetched a file
pub not-called : (called : Option Command) (told : Option NamedFiles) (rose : Type 0) (count : ℕ) (fault : WordsFault)
    → ExplainsWords called fault → IsNotAsked called rose told count count (stop_of_words fault)
not-called called told rose count words.NoCommand (inl other) = absurd (cc)
not-called called told rose count words.NoCommand (inr (same, none)) = record {
  barred = none;
  fetched = record { fetched = []; rest = sources_of called; parts = refl; counted = refl; behind = refl };
}
not-called called told rose count words.Memory why = record {
  barred = tt;
  fetched = record { fetched = []; rest = sources_of called; parts = refl; counted = refl; behind = tt };
}

-- what a `?` hands on of such words is told
pub words-stop : (result : Result Task Stop) (fault : WordsFault) → IsErrAnd result (λ now. now ≡ stop_of_words fault)
    → IsErrOf result Stop.Words ⊎ IsErrOf result Stop.Memory
words-stop (Ok task) fault is = absurd is
words-stop (Err now) words.NoCommand is = inl (ap Err is)
words-stop (Err now) words.Memory is = inr (ap Err is)

-- words that ask for a command do not ask for none
pub never-called : (command : Command) (called : Option Command) → Some command ≡ called → called ≡ None → ⊥
never-called command called some none = cc
