-- What the words of a call name, read off the code's own types.
use Rattle.std.specs.Prelude.{◌≡◌, ◌⊎◌, Option, None, map}
use Rattle.command_words.specs.declared.words.Command.{Command as ReadCommand}
use Rattle.command_words.specs.declared.words.NamedFile.{NamedFile}
use Rattle.command_words.specs.declared.words.WordsFault.{WordsFault}
use Rattle.command_words.specs.declared.words.WordsFault.TheVariants.{NoCommand, Memory}
use Rattle.command_words.specs.Words.{Command, NamedSource, file_of}

abbrev pub named : NamedFile → NamedSource
named file = file_of file.source file.name.now

abbrev pub command_read : ReadCommand → Command
command_read command = record {
  verb = command.verb;
  files = map named command.files.items;
  number = command.number;
  tail = command.tail;
  report = command.report;
}

-- the words ask for nothing, where this is what they ask for; memory may run out at any time
abbrev pub ExplainsWords : {A : Type 0} → Option A → WordsFault → Type 0
ExplainsWords asked_for why = (why ≡ Memory) ⊎ ((why ≡ NoCommand) × (asked_for ≡ None))
