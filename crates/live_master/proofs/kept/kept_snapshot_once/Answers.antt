use Rattle.std.proofs.Common.{rules, ◌≡◌}
use Rattle.turn_lock.specs.Passes.{knowing, refused}
use Rattle.live_master.proofs.kept.kept_snapshot_once.Goals as goal

pub returns-in-Err-clause-facts : goal.returns-in-Err-clause-facts
returns-in-Err-clause-facts c =
    let is : c.try_turn.follows.lender-at-none ≡ knowing c.args.pass.now (refused c.in-Err.busy.word c.args.pass.now.view) = search rules in
    rw is c.in-Err.ensures.facts
