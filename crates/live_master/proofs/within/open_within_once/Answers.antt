use Rattle.std.proofs.Common.{rules, ◌≡◌, ◌<◌, ◌≤◌, ◌^◌, length, subst, sym, arith, List}
use Rattle.turn_lock.specs.Passes.{knowing, refused}
use Rattle.requirement_table.specs.declared.entries.Placed.{Placed}
use Rattle.master_core.specs.declared.event.Event.{Event}
use Rattle.live_master.proofs.Calling.{opened_within}
use Rattle.live_master.proofs.Openings.{next_found}
use Rattle.live_master.proofs.Rooms.{short}
use Rattle.live_master.proofs.within.open_within_once.Goals as goal

pub returns-then-entries-needed-clause-within : goal.returns-then-entries-needed-clause-within
returns-then-entries-needed-clause-within c =
    short _ _ _ _ c.in-Ok.held.value.master.history c.in-Ok.ensures.begins (search rules) (search rules) (search rules) c.requires.dispatcher c.requires.standing.facts c.in-Ok.ensures.own

pub open-order-requires-clause-next : goal.open-order-requires-clause-next
open-order-requires-clause-next c =
    let same = next_found _ _ _ c.requires.dispatcher c.in-Ok.ensures.own in
    rw (c.reserve.ensures.history, c.value_mut-desk.ensures.value) (subst (λ n. n < 2 ^ 41) (sym same) c.requires.cycles)

pub returns-in-Ok-reserve-clause-within : goal.returns-in-Ok-reserve-clause-within
returns-in-Ok-reserve-clause-within c =
    let few : length c.value_mut-desk.result.now.master.placed ≤ c.args.entries =
    subst (λ (ps : List Placed). length ps ≤ c.args.entries) c.placed-needed.ensures.list (omega arith) in
    opened_within _ _ _ _ c.args.entries c.in-Ok.held.value.master.placed c.in-Ok.held.value.master.history c.in-Ok.ensures.begins
    (search rules) (search rules) (search rules) (search rules) (search rules)
    (rw c.value_mut-desk.ensures.value at few) c.requires.dispatcher c.requires.standing.facts c.in-Ok.ensures.own

pub returns-in-Err-clause-facts : goal.returns-in-Err-clause-facts
returns-in-Err-clause-facts c =
    let is : c.try_turn.follows.lender-at-none ≡ knowing c.args.pass.now (refused c.in-Err.busy.word c.args.pass.now.view) = search rules in
    rw is c.in-Err.ensures.facts
