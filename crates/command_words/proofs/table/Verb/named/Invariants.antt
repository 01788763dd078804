use Rattle.std.proofs.Common.{◌≡◌, length}
use Rattle.std.specs.Prelude.{find}
use Rattle.command_words.specs.Words.{is_named, verb_named}
use Rattle.command_words.proofs.table.Verb.named.Given as goal

abbrev pub invariant-loop-verb : goal.invariant-loop-verb
invariant-loop-verb l = find (is_named l.threads l.name) l.left ≡ verb_named l.threads l.name

abbrev pub decreases-loop-verb : goal.decreases-loop-verb
decreases-loop-verb l = length l.left
