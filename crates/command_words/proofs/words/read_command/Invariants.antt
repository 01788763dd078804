use Rattle.std.proofs.Common.{◌≡◌, fold, length}
use Rattle.clap.specs.Words.{found_of, rows_of}
use Rattle.command_words.specs.Words.{command_meant, with_argument}
use Rattle.command_words.specs.WordsRead.{command_read}
use Rattle.command_words.proofs.words.read_command.Given as goal

abbrev pub invariant-loop-argument : goal.invariant-loop-argument
invariant-loop-argument l =
    fold (with_argument (rows_of (found_of l.matches))) (command_read l.command) l.left
    ≡ command_meant l.fn.verb (rows_of (found_of l.matches))

abbrev pub decreases-loop-argument : goal.decreases-loop-argument
decreases-loop-argument l = length l.left
