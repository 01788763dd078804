-- The verdicts so far, none of which is Accepted.
use Rattle.elastic.specs.Choice.{AreRefused}
use Rattle.elastic.proofs.choosing.first_accepted.Given as goal

abbrev pub invariant-loop-number : goal.invariant-loop-number
invariant-loop-number l = AreRefused l.fn.rules l.fn.placed l.fn.state.pending l.fn.state.cycle l.fn.wish l.number l.verdicts.items
