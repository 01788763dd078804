use Rattle.stuff_bound.proofs.Stuffs.{length-stuffed-least, length-stuffed-most}
use Rattle.stuff_bound.proofs.laws.lengths.Goals as goal

pub returns-clause-at_least : goal.returns-clause-at_least
returns-clause-at_least c plain = length-stuffed-least plain

pub returns-clause-at_most : goal.returns-clause-at_most
returns-clause-at_most c plain some = length-stuffed-most plain some
