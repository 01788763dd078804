use Rattle.standby.proofs.Behind.{frames-due}
use Rattle.standby.proofs.Followed.{changed-both, opened-both, untold-both}
use Rattle.standby.proofs.laws.follows_each.Goals as goal

pub returns : goal.returns
returns c = record {
  due = frames-due;
  opened = opened-both;
  changed = changed-both;
  untold = untold-both;
}
