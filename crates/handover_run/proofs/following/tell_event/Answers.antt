use Rattle.std.proofs.Common.{sym, ◌∙◌}
use Rattle.handover_run.proofs.Told.{accepted-behind}
use Rattle.handover_run.proofs.following.tell_event.Goals as goal

pub tell_change-requires-clause-accepted : goal.tell_change-requires-clause-accepted
tell_change-requires-clause-accepted c =
    accepted-behind c.args.standby.now c.args.event.now c.in-Submit.is (sym c.is_accepted.ensures.test ∙ c.if-is_accepted.true) c.requires.right
