use Rattle.std.proofs.Common.{◌≡◌, fold, length}
use Rattle.clap.specs.Words.{app_of, with_rule}
use Rattle.command_words.specs.Words.{argument_rule, verb_app}
use Rattle.command_words.proofs.arguments.row.Given as goal

abbrev pub invariant-loop-next : goal.invariant-loop-next
invariant-loop-next l =
    fold (λ app argument. with_rule app (argument_rule argument)) (app_of l.command) l.left ≡ verb_app l.fn.verb

abbrev pub decreases-loop-next : goal.decreases-loop-next
decreases-loop-next l = length l.left
