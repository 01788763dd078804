use Rattle.can_frame.proofs.ByteSums.{share_is}
use Rattle.can_frame.proofs.sequence.share.Goals as goal

pub returns : goal.returns
returns c = record { remainder = rw c.from.ensures (share_is c.args.behind c.args.byte c.requires.few c.ranges.byte.fits) }
