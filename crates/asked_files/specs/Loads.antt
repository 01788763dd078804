-- The files that the words of a call name, in the order in which they are fetched, and at which of them a call stopped.
-- What loading does to a shelf, and what it says to the calls above it. Only fetches are counted: a shelf tells no names
-- of what was fetched.
use Rattle.std.specs.Prelude.{◌≡◌, ℕ, ⊤, ◌⊎◌, List, [], ◌∷◌, ◌++◌, fold, Option, None, Some, Ok, ◌+◌, ◌≤◌, Result, Err, IsSome}
use Rattle.std.specs.Option.{ForSome}
use Rattle.ftt_io.specs.Counts.{next_count}
use Rattle.ftt_io.specs.Files.{IsAbsent, NamedFiles}
use Rattle.command_words.specs.Words.{Command, NamedSource}
use Rattle.command_words.specs.declared.table.Source.{Source}
use Rattle.asked_files.specs.declared.inputs.Inputs.{Inputs}
use Rattle.asked_files.specs.declared.stopping.Refusal.{Refusal}
use Rattle.asked_files.specs.declared.stopping.Stop.{Stop}
use Rattle.asked_files.specs.declared.stopping.Stop.TheVariants.{Words, Input, Read, Write, Memory}
use Rattle.asked_files.specs.Inputs.{AreFilesRead, nothing_read, IsMeant, MayBeRead, MayHold}
use Rattle.command_words.specs.declared.words.WordsFault.{WordsFault}
use Rattle.command_words.specs.declared.words.WordsFault.TheVariants as words
use Rattle.asked_files.specs.declared.inputs.Content.{Content}

-- the files that the words of a command name
abbrev pub sources_of : Option Command → List NamedSource
sources_of None = []
sources_of (Some command) = command.files

-- the count of fetches after these files were fetched, each once
abbrev pub count_behind : {A : Type 0} → ℕ → List A → ℕ
count_behind count fetched = fold (λ counted file. next_count counted) count fetched

-- the file that a refusal speaks of
abbrev pub source_of : Refusal → Source
source_of (Refusal.TooLong source) = source
source_of (Refusal.System fault) = Source.System
source_of (Refusal.Steps fault) = Source.Steps
source_of (Refusal.Requests fault) = Source.Requests
source_of (Refusal.Plan line) = Source.Plan
source_of Refusal.LaterPlan = Source.Plan
source_of (Refusal.Wishes fault) = Source.Wishes
source_of (Refusal.Log number) = Source.Log
source_of (Refusal.Streams fault) = Source.Streams

-- where the files are told, each of these was there with a text of its format, read one after the other
abbrev pub WereRead : Option NamedFiles → List NamedSource → Type 0
WereRead told fetched = ForSome told (λ files. (inputs : Inputs) × AreFilesRead files fetched nothing_read (Ok inputs))

-- A call may stop for this reason at this file, where `told` are the files, where they are told, and `rose` says that
-- the shelf's count of faults rose. The file is refused; or it could not be read, and then the shelf failed or has no
-- such file; or memory ran out
abbrev pub StopsAtFile : Option NamedFiles → Type 0 → NamedSource → Stop → Type 0
StopsAtFile told rose file (Input refusal) = source_of refusal ≡ file.source
StopsAtFile told rose file Read = rose ⊎ IsAbsent told file.name
StopsAtFile told rose file Memory = ⊤
StopsAtFile told rose file _ = ⊥

-- of these files all but the last were read, and a call may stop for this reason at the last
pub record StopsAtLast (told : Option NamedFiles) (rose : Type 0) (why : Stop) (fetched : List NamedSource) : Type 0 where
  pub front : List NamedSource
  pub last : NamedSource
  pub parts : fetched ≡ front ++ last ∷ []
  pub before : WereRead told front
  pub here : StopsAtFile told rose last why

-- a call that stopped for this reason made as many fetches as these files are: none where its words are no command's,
-- and none behind the first file that is refused or could not be read. Where memory ran out it made any number
abbrev pub StoppedBehind : Option NamedFiles → Type 0 → Stop → List NamedSource → Type 0
StoppedBehind told rose Words fetched = fetched ≡ []
StoppedBehind told rose (Input refusal) fetched = StopsAtLast told rose (Input refusal) fetched
StoppedBehind told rose Read fetched = StopsAtLast told rose Read fetched
StoppedBehind told rose Write fetched = ⊥
StoppedBehind told rose Memory fetched = ⊤

-- of the files that a call was to fetch, it had made as many fetches as some first ones are when it stopped for this
-- reason
pub record IsStoppedAt (told : Option NamedFiles) (rose : Type 0) (sources : List NamedSource) (old new : ℕ)
    (why : Stop) : Type 0 where
  pub fetched : List NamedSource
  pub rest : List NamedSource
  pub parts : sources ≡ fetched ++ rest
  pub counted : new ≡ count_behind old fetched
  pub behind : StoppedBehind told rose why fetched

-- what loading did to a shelf, by what it shows before and after: its files stay, so many fetches were made at most,
-- and no count fell
pub record IsFetched (old_told new_told : Option NamedFiles) (old_fetches new_fetches old_faults new_faults most : ℕ)
    : Type 0 where
  pub files_stay : new_told ≡ old_told
  pub counted : new_fetches ≤ old_fetches + most
  pub fetches_never_fall : old_fetches ≤ new_fetches
  pub faults_never_fall : old_faults ≤ new_faults

-- the same of a shelf that shows its files and its counts so
abbrev pub Fetches : {S : Type 0} → (S → Option NamedFiles) → (S → ℕ) → (S → ℕ) → S → S → ℕ → Type 0
Fetches told_files fetches faults old new most =
    IsFetched (told_files old) (told_files new) (fetches old) (fetches new) (faults old) (faults new) most

-- A call stops for this reason before anything is done, where `none` says that its words ask for nothing, `rose` that
-- the shelf's count of faults rose, `told` are the files, where they are told, and `IsFor` says what is asked of them.
-- Memory may run out at any time
abbrev pub IsBarred : {A : Type 0} → Type 0 → Type 0 → Option NamedFiles → (NamedFiles → Result A Stop → Type 0) → Stop
    → Type 0
IsBarred none rose told IsFor Words = none
IsBarred none rose told IsFor (Input refusal) = ForSome told (λ files. IsFor files (Err (Input refusal)))
IsBarred none rose told IsFor Read = (rose ⊎ IsSome told) × ForSome told (λ files. rose ⊎ IsFor files (Err Read))
IsBarred none rose told IsFor Write = ⊥
IsBarred none rose told IsFor Memory = ⊤

-- a call stops for this reason, with so many fetches: of these files it fetched none, where its words ask for nothing,
-- or those up to the first that is refused or could not be read
pub record IsHeldUp {A : Type 0} (none rose : Type 0) (told : Option NamedFiles)
    (IsFor : NamedFiles → Result A Stop → Type 0) (sources : List NamedSource) (before behind : ℕ) (why : Stop)
    : Type 0 where
  pub barred : IsBarred none rose told IsFor why
  pub fetched : IsStoppedAt told rose sources before behind why

-- all of these files were fetched, each once, and this was read of them
pub record AreAllRead (told : Option NamedFiles) (sources : List NamedSource) (before behind : ℕ) (inputs : Inputs)
    : Type 0 where
  pub counted : behind ≡ count_behind before sources
  pub may : MayBeRead sources nothing_read inputs
  pub read : ForSome told (λ files. AreFilesRead files sources nothing_read (Ok inputs))

-- what a reader of such files answers to bytes, behind what was read before them: what they mean, or that memory ran
-- out
abbrev pub ReadsSource : Source → Inputs → List ℕ → Result Content Stop → Type 0
ReadsSource source before bytes (Ok content) = MayHold source before content × IsMeant source before bytes (Ok content)
ReadsSource source before bytes (Err (Input refusal)) =
    (source_of refusal ≡ source) × IsMeant source before bytes (Err (Input refusal))
ReadsSource source before bytes (Err Memory) = ⊤
ReadsSource source before bytes (Err _) = ⊥

-- why a call stops whose words were not taken
abbrev pub stop_of_words : WordsFault → Stop
stop_of_words words.NoCommand = Words
stop_of_words words.Memory = Memory
