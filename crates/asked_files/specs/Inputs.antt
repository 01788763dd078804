-- What the files of a command hold: each is fetched and read before the next one is.
use Rattle.std.specs.Prelude.{◌≡◌, ℕ, ◌≤◌, All, List, [], ◌∷◌, length, if◌then◌else◌, nat_le, Option, Some, None, Result, Ok, Err}
use Rattle.std.specs.Option.{option_map_or}
use Rattle.ftt_io.specs.Files.{NamedFiles}
use Rattle.plan_check.specs.Certificate.{CertificateView}
use Rattle.plan_check.specs.PlanText.{IsFirstWrongLine, IsReadable, IsTextOfPlan}
use Rattle.plan_check.specs.declared.plan_runs.Version.TheVariants.{Two}
use Rattle.log_reader.specs.Row.{AreRowsOf, IsFirstFaultyRow}
use Rattle.log_reader.specs.declared.row.LogRow.{LogRow}
use Rattle.async_window.specs.declared.request.Owner.{Owner}
use Rattle.system_file.specs.SystemFile.{IsSystem, system_of}
use Rattle.steps_file.specs.StepsFile.{AreLegalSteps, steps_of}
use Rattle.requests_file.specs.RequestsFile.{AreLegal, requests_of}
use Rattle.elastic.specs.Combination.{HasFewChoices}
use Rattle.elastic.specs.WishesFile.{IsLegalWish, wish_of}
use Rattle.elastic.specs.declared.wish.Wish.{Wish}
use Rattle.sporadic_poll.specs.StreamsFile.{AreLegalStreams, streams_of}
use Rattle.command_words.specs.Words.{NamedSource, limit_of}
use Rattle.command_words.specs.declared.table.Source.{Source}
use Rattle.asked_files.specs.declared.inputs.Content.{Content}
use Rattle.asked_files.specs.declared.inputs.Inputs.{Inputs}
use Rattle.asked_files.specs.declared.stopping.Refusal.{Refusal}
use Rattle.asked_files.specs.declared.stopping.Stop.{Stop}
use Rattle.asked_files.specs.declared.stopping.Stop.TheVariants.{Input, Read}

-- the bytes of a file that is there and within the limit
abbrev pub within_limit : Source → Option (List ℕ) → Result (List ℕ) Stop
within_limit source None = Err Read
within_limit source (Some bytes) =
    if nat_le (length bytes) (limit_of source) then Ok bytes else Err (Input (Refusal.TooLong source))

-- What was read

-- nothing was read yet
abbrev pub nothing_read : Inputs
nothing_read = record {
  system = None;
  steps = None;
  requests = None;
  plan = None;
  wish = None;
  log = None;
  streams = None;
}

-- the same with what one more file holds
abbrev pub with_content : Inputs → Content → Inputs
with_content inputs (Content.System system) = record inputs { system = Some system }
with_content inputs (Content.Steps steps) = record inputs { steps = Some steps }
with_content inputs (Content.Requests requests) = record inputs { requests = Some requests }
with_content inputs (Content.Plan plan) = record inputs { plan = Some plan }
with_content inputs (Content.Wish wish) = record inputs { wish = Some wish }
with_content inputs (Content.Log log) = record inputs { log = Some log }
with_content inputs (Content.Streams streams) = record inputs { streams = Some streams }

-- the owners that requests may have, and the number of slots that streams may have: those of the system
abbrev pub owners_in : Inputs → List Owner
owners_in inputs = option_map_or (λ system. system.owners) inputs.system []

abbrev pub slots_in : Inputs → ℕ
slots_in inputs = option_map_or (λ system. system.rules.slots) inputs.system 0

-- What bytes mean

-- what a text means, or the refusal of its file for the fault in it
abbrev pub meant : {A Fault : Type 0} → (A → Content) → (Fault → Refusal) → Result A Fault → Result Content Stop
meant content refusal (Ok value) = Ok (content value)
meant content refusal (Err fault) = Err (Input (refusal fault))

-- a certificate begins at cycle 0 with nothing pending
pub record IsFromStart (certificate : CertificateView) : Type 0 where
  pub from : certificate.from ≡ 0
  pub pending : certificate.pending ≡ 0

-- these bytes are the text of a plan that begins later, or with something pending
pub record IsLaterPlan (bytes : List ℕ) : Type 0 where
  pub certificate : CertificateView
  pub plan : IsTextOfPlan bytes certificate
  pub later : IsFromStart certificate → ⊥

-- what the bytes of a plan's file mean, for a check
abbrev pub IsPlanMeant : List ℕ → Result Content Stop → Type 0
IsPlanMeant bytes (Ok (Content.Plan certificate)) = IsTextOfPlan bytes certificate × IsFromStart certificate
IsPlanMeant bytes (Err (Input (Refusal.Plan line))) = IsFirstWrongLine bytes line
IsPlanMeant bytes (Err (Input Refusal.LaterPlan)) = IsLaterPlan bytes
IsPlanMeant bytes _ = ⊥

-- the records of a text are those of rows of a log
abbrev pub IsLogText : List ℕ → Type 0
IsLogText text = (rows : List LogRow) × AreRowsOf text rows

-- what the bytes of a log's file mean, for an audit: they themselves, where they are such a text
abbrev pub IsLogMeant : List ℕ → Result Content Stop → Type 0
IsLogMeant bytes (Ok (Content.Log text)) = (text ≡ bytes) × IsLogText text
IsLogMeant bytes (Err (Input (Refusal.Log number))) = IsFirstFaultyRow bytes number
IsLogMeant bytes _ = ⊥

-- what the bytes of a file mean, behind what was read before it
abbrev pub IsMeant : Source → Inputs → List ℕ → Result Content Stop → Type 0
IsMeant Source.System before bytes content = content ≡ meant Content.System Refusal.System (system_of bytes)
IsMeant Source.Steps before bytes content = content ≡ meant Content.Steps Refusal.Steps (steps_of bytes)
IsMeant Source.Requests before bytes content =
    content ≡ meant Content.Requests Refusal.Requests (requests_of (owners_in before) bytes)
IsMeant Source.Plan before bytes content = IsPlanMeant bytes content
IsMeant Source.Wishes before bytes content = content ≡ meant Content.Wish Refusal.Wishes (wish_of bytes)
IsMeant Source.Log before bytes content = IsLogMeant bytes content
IsMeant Source.Streams before bytes content =
    content ≡ meant Content.Streams Refusal.Streams (streams_of (slots_in before) bytes)

-- what holds of a certificate that is to be checked
pub record IsToCheck (certificate : CertificateView) : Type 0 where
  pub readable : IsReadable Two certificate
  pub start : IsFromStart certificate

-- what holds of a wish of which is to be chosen
pub record IsToChoose (wish : Wish) : Type 0 where
  pub legal : IsLegalWish wish
  pub few_ops : length wish.ops ≤ 256
  pub few_periods : All HasFewChoices wish.ops

-- a file of this kind may hold this, behind what was read before it, whatever its bytes are
abbrev pub MayHold : Source → Inputs → Content → Type 0
MayHold Source.System before (Content.System system) = IsSystem system
MayHold Source.Steps before (Content.Steps steps) = AreLegalSteps steps
MayHold Source.Requests before (Content.Requests requests) = AreLegal (owners_in before) requests
MayHold Source.Plan before (Content.Plan certificate) = IsToCheck certificate
MayHold Source.Wishes before (Content.Wish wish) = IsToChoose wish
MayHold Source.Log before (Content.Log text) = IsLogText text
MayHold Source.Streams before (Content.Streams streams) = AreLegalStreams (slots_in before) streams
MayHold _ before _ = ⊥

-- All files of a command, in the order in which they are fetched

-- what comes of a value: `Next` says it; the first that stops decides
abbrev pub IsThen : {A B : Type 0} → Result A Stop → (A → Result B Stop → Type 0) → Result B Stop → Type 0
IsThen (Ok value) Next result = Next value result
IsThen (Err why) Next result = result ≡ Err why

-- what the file means, behind what was read before it
abbrev pub IsFileHeld : NamedFiles → NamedSource → Inputs → Result Content Stop → Type 0
IsFileHeld files file before content =
    IsThen (within_limit file.source (files file.name)) (IsMeant file.source before) content

-- what is read of these files, one after the other
abbrev pub AreFilesRead : NamedFiles → List NamedSource → Inputs → Result Inputs Stop → Type 0
AreFilesRead files [] before read = read ≡ Ok before
AreFilesRead files (file ∷ rest) before read = (content : Result Content Stop) × IsFileHeld files file before content
    × IsThen content (λ held. AreFilesRead files rest (with_content before held)) read

-- this may be read of such files, whatever their bytes are
abbrev pub MayBeRead : List NamedSource → Inputs → Inputs → Type 0
MayBeRead [] before after = after ≡ before
MayBeRead (file ∷ rest) before after = (content : Content) × MayHold file.source before content
    × MayBeRead rest (with_content before content) after
