use Rattle.std.proofs.Common.{rules, ◌≡◌}
use Rattle.turn_lock.specs.Passes.{knowing, refused}
use Rattle.live_master.proofs.Calling.{can_settle, settled}
use Rattle.live_master.proofs.Keeping.{held-at, kept-settled, one-more}
use Rattle.live_master.proofs.turns.settle_once.Goals as goal

pub returns-in-Err-clause-facts : goal.returns-in-Err-clause-facts
returns-in-Err-clause-facts c =
    let is : c.try_turn.follows.lender-at-none ≡ knowing c.args.pass.now (refused c.in-Err.busy.word c.args.pass.now.view) = search rules in
    rw is c.in-Err.ensures.facts

pub returns-in-Ok-settle-clause-settled : goal.returns-in-Ok-settle-clause-settled
returns-in-Ok-settle-clause-settled c =
    let (trail, event) = c.in-Ok-settle.ensures.event in
    let caller = c.requires.caller.0 in
    settled _ _ _ _ _ trail c.in-Ok.held.value.master.history c.in-Ok.ensures.begins (search rules)

pub settle-requires-clause-planned : goal.settle-requires-clause-planned
settle-requires-clause-planned c =
    rw (c.value_mut-desk.ensures.value, c.in-Ok.ensures.fixed)
    (can_settle _ _ _ _ _ c.requires.planned c.in-Ok.ensures.begins)

pub settle-requires-clause-held : goal.settle-requires-clause-held
settle-requires-clause-held c = λ same.
    rw c.value_mut-desk.ensures.value
    (held-at _ _ _ _ _ c.in-Ok.held.value.master.placed c.requires.planned c.requires.standing.legal c.in-Ok.ensures.begins (search rules)
    (rw c.value_mut-desk.ensures.value at same))

pub invariant_of-desk-clause-kept : goal.invariant_of-desk-clause-kept
invariant_of-desk-clause-kept c =
    kept-settled _ c.value_mut-desk.result.now.master c.settle.new.self _ _ _ (search rules) c.settle.ensures.event c.settle.ensures.placed c.settle.ensures.same c.settle.ensures.still

pub commit-requires-clause-next : goal.commit-requires-clause-next
commit-requires-clause-next c =
    let (trail, event) = c.in-Ok-settle.ensures.event in
    one-more c.in-Ok.held.pass.now.view _ _ c.in-Ok.held.value.master.history _ _ _ _ trail (search rules) (search rules) event (search rules) c.requires.caller.1
