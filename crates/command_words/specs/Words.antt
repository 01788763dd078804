-- The words of a call, the program's name left out: which command they ask for. The first word names the command. The
-- words are in the table of commands exactly where clap's simple command of that row takes them, which gets the first
-- word as its program's name.
use Rattle.std.specs.Prelude.{◌≡◌, ℕ, ◌-◌, ◌^◌, pos, List, [], ◌∷◌, ◌++◌, map, fold, Bool, true, false, ◌&&◌, Option, Some, None, if◌then◌else◌, codes, find, flat_map, nat_lt, unwrap_or, option_and_then}
use Rattle.std.specs.Bool.{beq}
use Rattle.std.specs.Option.{option_map_or}
use Rattle.std.specs.Str.{bytes_eq}
use Rattle.std.specs.Str.Parse.{digits_value, without_leading_plus}
use Rattle.profile.specs.Limits.{most_cycles}
use Rattle.clap.specs.ValueTests.{is_numeral}
use Rattle.clap.specs.Walk.{is_empty, one_of, first_of}
use Rattle.clap.specs.Words.{App, Row, Rule, Text, fault_of, matches_of, new_app, new_rule, with_rule}
use Rattle.clap.specs.declared.builder.action.ArgAction.TheVariants.{SetTrue}
use Rattle.clap.specs.declared.builder.value_parser.ValueParser.TheVariants.{Signed}
use Rattle.command_words.specs.declared.table.Argument.{Argument}
use Rattle.command_words.specs.declared.table.Argument.TheVariants.{File, FileIf, Number, At, Tail, Report}
use Rattle.command_words.specs.declared.table.Source.{Source}
use Rattle.command_words.specs.declared.table.Source.TheVariants.{System, Steps, Requests, Plan, Wishes, Log, Streams}
use Rattle.command_words.specs.declared.table.Verb.{Verb}

-- The table of commands

-- the word for a file
abbrev pub source_word : Source → Text
source_word System = codes "system"
source_word Steps = codes "steps"
source_word Requests = codes "requests"
source_word Plan = codes "plan"
source_word Wishes = codes "wishes"
source_word Log = codes "log"
source_word Streams = codes "streams"

-- the greatest number of bytes of a file
abbrev pub limit_of : Source → ℕ
limit_of Log = 134217728
limit_of _ = 4194304

-- the word of a command
abbrev pub verb_word : Verb → Text
verb_word Verb.Replay = codes "replay"
verb_word Verb.Admit = codes "admit"
verb_word Verb.Check = codes "check"
verb_word Verb.Generate = codes "gen"
verb_word Verb.Live = codes "live"
verb_word Verb.Audit = codes "audit"
verb_word Verb.Handover = codes "handover"
verb_word Verb.Poll = codes "poll"
verb_word Verb.Elastic = codes "elastic"

-- what follows it; the files are fetched in this order
abbrev pub arguments_of : Verb → List Argument
arguments_of Verb.Replay = File System ∷ File Steps ∷ FileIf Requests ∷ Tail ∷ Report ∷ []
arguments_of Verb.Admit = File System ∷ File Steps ∷ []
arguments_of Verb.Check = File System ∷ File Steps ∷ File Plan ∷ []
arguments_of Verb.Generate = Number ∷ []
arguments_of Verb.Live = File System ∷ File Steps ∷ FileIf Requests ∷ Report ∷ []
arguments_of Verb.Audit = File System ∷ File Steps ∷ File Log ∷ FileIf Requests ∷ []
arguments_of Verb.Handover = File System ∷ File Steps ∷ At ∷ FileIf Requests ∷ []
arguments_of Verb.Poll = File System ∷ File Steps ∷ File Streams ∷ []
arguments_of Verb.Elastic = File System ∷ File Steps ∷ File Wishes ∷ []

-- whether it is carried out by threads
abbrev pub needs_threads : Verb → Bool
needs_threads Verb.Live = true
needs_threads _ = false

-- all commands
abbrev pub verbs : List Verb
verbs =
    Verb.Replay ∷ Verb.Admit ∷ Verb.Check ∷ Verb.Generate ∷ Verb.Live ∷ Verb.Audit ∷ Verb.Handover ∷ Verb.Poll
    ∷ Verb.Elastic ∷ []

-- whether a command has this word, and is carried out by threads or not
abbrev pub is_named : Bool → Text → Verb → Bool
is_named threads name verb = beq (needs_threads verb) threads && bytes_eq (verb_word verb) name

-- the command with this word, of those that are carried out by threads or of the others
abbrev pub verb_named : Bool → Text → Option Verb
verb_named threads name = find (is_named threads name) verbs

-- Its usage lines

-- small letters as capital ones
abbrev pub in_capitals : Text → Text
in_capitals text = map (λ letter. letter - 32) text

abbrev pub argument_usage : Argument → Text
argument_usage (File source) = codes " " ++ in_capitals (source_word source)
argument_usage (FileIf source) = codes " [" ++ in_capitals (source_word source) ++ codes "]"
argument_usage Number = codes " NUMBER"
argument_usage At = codes " AT"
argument_usage Tail = codes " [--tail N]"
argument_usage Report = codes " [--report]"

abbrev pub verb_usage : Verb → Text
verb_usage verb =
    codes "usage: fttcan " ++ verb_word verb ++ flat_map argument_usage (arguments_of verb) ++ codes "\n"

-- the lines that say which words a call may have, one for each row
unfoldable pub usage : Text
usage = flat_map verb_usage verbs

-- The table, as clap is told it

-- a word that may be left out
abbrev pub optional : Text → Rule
optional id = new_rule id

-- a word that has to be there
abbrev pub needed : Text → Rule
needed id = record (new_rule id) { required = true }

-- a number that has to be there, up to a greatest one
abbrev pub number_up_to : ℕ → Text → Rule
number_up_to greatest id = record (needed id) { parser = Some (Signed (pos 0) (pos greatest)) }

-- an option that is there or not
abbrev pub flag : Text → Rule
flag id = record (new_rule id) { long = Some id; action = Some SetTrue }

-- an option with a number from 1 to a greatest one
abbrev pub counted_option : ℕ → Text → Rule
counted_option greatest id = record (new_rule id) { long = Some id; parser = Some (Signed (pos 1) (pos greatest)) }

abbrev pub argument_rule : Argument → Rule
argument_rule (File source) = needed (source_word source)
argument_rule (FileIf source) = optional (source_word source)
argument_rule Number = number_up_to 4294967295 (codes "number")
argument_rule At = number_up_to most_cycles (codes "at")
argument_rule Tail = counted_option 10000 (codes "tail")
argument_rule Report = flag (codes "report")

-- clap's command of a row
unfoldable pub verb_app : Verb → App
verb_app verb =
    fold (λ app argument. with_rule app (argument_rule argument)) (new_app (verb_word verb)) (arguments_of verb)

-- What is asked

-- a file that is to be fetched: which of a command's files it is, and its name
pub record NamedSource : Type 0 where
  pub source : Source
  pub name : Text

-- the file of this name, as which of the files
abbrev pub file_of : Source → Text → NamedSource
file_of source name = record { source = source; name = name }

-- a command: which one, and the files that it names in the order in which they are fetched; the number of an input, or
-- of opened cycles before a handover; how many of the last rows of a log are asked for, where not all are; and whether
-- a report is
pub record Command : Type 0 where
  pub verb : Verb
  pub files : List NamedSource
  pub number : ℕ
  pub tail : Option ℕ
  pub report : Bool

-- What clap makes of the words: a row for each argument that it found
abbrev pub Found : Type 0
Found = List Row

-- the word that may be left out
abbrev pub word_if : Text → Found → Option Text
word_if id rows = first_of id rows

-- the word that has to be there
abbrev pub word_of : Text → Found → Text
word_of id rows = unwrap_or (word_if id rows) []

-- whether an option is there
abbrev pub is_set : Text → Found → Bool
is_set id rows = option_map_or (λ text. bytes_eq text (codes "true")) (one_of id rows) false

-- the number that decimal digits write, a plus allowed before them, where it is one of so many bits
abbrev pub number_in : ℕ → Text → Option ℕ
number_in bits text =
    let digits = without_leading_plus text in
    if is_numeral digits && nat_lt (digits_value 10 digits) (2 ^ bits) then Some (digits_value 10 digits) else None

-- the number of an option or a word
abbrev pub number_of : ℕ → Text → Found → Option ℕ
number_of bits id rows = option_and_then (number_in bits) (one_of id rows)

-- the file of this name, where one is named
abbrev pub file_if : Source → Option Text → List NamedSource
file_if source None = []
file_if source (Some name) = file_of source name ∷ []

-- what the words say at an argument
abbrev pub with_argument : Found → Command → Argument → Command
with_argument rows command (File source) =
    record command { files = command.files ++ file_of source (word_of (source_word source) rows) ∷ [] }
with_argument rows command (FileIf source) =
    record command { files = command.files ++ file_if source (word_if (source_word source) rows) }
with_argument rows command Number =
    record command { number = unwrap_or (number_of 32 (codes "number") rows) 0 }
with_argument rows command At = record command { number = unwrap_or (number_of 16 (codes "at") rows) 0 }
with_argument rows command Tail = record command { tail = number_of 16 (codes "tail") rows }
with_argument rows command Report = record command { report = is_set (codes "report") rows }

-- the command of a row that says nothing at an argument
abbrev pub bare_command : Verb → Command
bare_command verb = record { verb = verb; files = []; number = 0; tail = None; report = false }

-- what the words say at all arguments of the row
unfoldable pub command_meant : Verb → Found → Command
command_meant verb rows = fold (with_argument rows) (bare_command verb) (arguments_of verb)

-- a command is one of this row
abbrev pub IsOfRow : Verb → Command → Type 0
IsOfRow verb command = (rows : Found) × (command ≡ command_meant verb rows)

-- what the words mean, where clap's command takes them
unfoldable pub taken_by : {A : Type 0} → App → (Found → A) → List Text → Option A
taken_by app meaning words = if is_empty (fault_of app words) then Some (meaning (matches_of app words)) else None

-- what the words ask for, where they are in a row of what is carried out by threads, or of the others
abbrev pub command_of_verb : Option Verb → List Text → Option Command
command_of_verb None words = None
command_of_verb (Some verb) words = taken_by (verb_app verb) (command_meant verb) words

abbrev pub command_by : Bool → List Text → Option Command
command_by threads [] = None
command_by threads (name ∷ rest) = command_of_verb (verb_named threads name) (name ∷ rest)

-- the command that the words ask for; `None` where they are in no row of the table, or in that of `live`
abbrev pub command_of : List Text → Option Command
command_of words = command_by false words

-- the run by threads that the words ask for; `None` where they are not in the row of `live`
abbrev pub live_of : List Text → Option Command
live_of words = command_by true words
