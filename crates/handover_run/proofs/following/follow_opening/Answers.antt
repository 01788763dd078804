use Rattle.std.proofs.Common.{subst}
use Rattle.std.proofs.lemmas.Result.{on_ok_weaker}
use Rattle.handover_run.specs.Following.{IsStillFollowing}
use Rattle.handover_run.proofs.Told.{followed-opening}
use Rattle.handover_run.proofs.following.follow_opening.Goals as goal

pub returns-in-Some : goal.returns-in-Some
returns-in-Some c = record {
  followed = λ rules whole cycle mask follows right.
      on_ok_weaker c.hear_opening.result
      (λ opened. followed-opening
      (record { opened = c.follows_each.ensures.opened; changed = c.follows_each.ensures.changed; untold = c.follows_each.ensures.untold })
      rules whole cycle mask c.in-Some.standby c.hear_opening.new.standby (subst (IsStillFollowing rules whole) c.in-Some.is follows) right
      c.hear_opening.ensures.rules opened)
      c.hear_opening.ensures.opened;
}
