use Rattle.std.proofs.Common.{arith}
use Rattle.std.proofs.lemmas.Bool.{leb-false, leb-true}
use Rattle.async_window.proofs.Soonest.{arrives-later, fits-here, fits-not}
use Rattle.async_window.proofs.firsts.has_short.Goals as goal

pub returns : goal.returns
returns c = grind (arith, fits-here, leb-true, fits-not, leb-false)

pub returns-then-at-arrival-clause-no : goal.returns-then-at-arrival-clause-no
returns-then-at-arrival-clause-no c none = grind (arith, arrives-later)
