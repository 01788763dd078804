use Rattle.std.proofs.Common.{rules, ◌≡◌, ◌<◌, ◌^◌, subst, sym}
use Rattle.turn_lock.specs.Passes.{knowing, refused}
use Rattle.live_master.proofs.Calling.{opened}
use Rattle.live_master.proofs.Openings.{next_found}
use Rattle.live_master.proofs.turns.open_once.Goals as goal

pub open_all-requires-clause-next : goal.open_all-requires-clause-next
open_all-requires-clause-next c =
    let same = next_found _ _ _ c.requires.dispatcher c.in-Ok.ensures.own in
    rw c.value_mut-desk.ensures.value (subst (λ n. n < 2 ^ 41) (sym same) c.requires.cycles)

pub returns-in-Ok-open_all-clause-opened : goal.returns-in-Ok-open_all-clause-opened
returns-in-Ok-open_all-clause-opened c =
    opened _ _ _ _ c.in-Ok.held.value.master.history c.in-Ok.ensures.begins (search rules) (search rules) c.requires.dispatcher c.requires.standing.facts c.in-Ok.ensures.own

pub returns-in-Err-clause-facts : goal.returns-in-Err-clause-facts
returns-in-Err-clause-facts c =
    let is : c.try_turn.follows.lender-at-none ≡ knowing c.args.pass.now (refused c.in-Err.busy.word c.args.pass.now.view) = search rules in
    rw is c.in-Err.ensures.facts
