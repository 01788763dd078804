use Rattle.bit_sets.proofs.Lowest.{lowest-128}
use Rattle.bit_sets.proofs.rows.first.Goals as goal

pub returns-clause-stands : goal.returns-clause-stands
returns-clause-stands c = (lowest-128 c.args.set c.requires.some c.ranges.set.fits).has

pub returns-clause-none_before : goal.returns-clause-none_before
returns-clause-none_before c = (lowest-128 c.args.set c.requires.some c.ranges.set.fits).none
