use Rattle.std.proofs.Common.{rules, ◌≡◌}
use Rattle.turn_lock.specs.Passes.{knowing, refused}
use Rattle.live_master.proofs.Calling.{settled-kept}
use Rattle.live_master.proofs.Keeping.{can-settle-kept, kept-settled, one-more}
use Rattle.live_master.proofs.kept.settle_kept_once.Goals as goal

pub returns-in-Err-clause-facts : goal.returns-in-Err-clause-facts
returns-in-Err-clause-facts c =
    let is : c.try_turn.follows.lender-at-none ≡ knowing c.args.pass.now (refused c.in-Err.busy.word c.args.pass.now.view) = search rules in
    rw is c.in-Err.ensures.facts

pub returns-in-Ok-settle_kept-clause-settled : goal.returns-in-Ok-settle_kept-clause-settled
returns-in-Ok-settle_kept-clause-settled c =
    let (trail, event) = c.in-Ok-settle_kept.ensures.event in
    let caller = c.requires.caller.0 in
    settled-kept _ _ _ _ trail c.in-Ok.held.value.master.history c.in-Ok.ensures.begins (search rules)

pub settle_kept-requires-clause-planned : goal.settle_kept-requires-clause-planned
settle_kept-requires-clause-planned c =
    rw c.value_mut-desk.ensures.value
    (can-settle-kept c.in-Ok.held.value.master _ _ _ c.requires.planned c.requires.standing.legal c.in-Ok.ensures.fixed c.in-Ok.ensures.begins (search rules))

pub invariant_of-desk-clause-kept : goal.invariant_of-desk-clause-kept
invariant_of-desk-clause-kept c =
    kept-settled _ c.value_mut-desk.result.now.master c.settle_kept.new.self _ _ _ (search rules) c.settle_kept.ensures.event c.settle_kept.ensures.placed c.settle_kept.ensures.same c.settle_kept.ensures.still

pub commit-requires-clause-next : goal.commit-requires-clause-next
commit-requires-clause-next c =
    let (trail, event) = c.in-Ok-settle_kept.ensures.event in
    one-more c.in-Ok.held.pass.now.view _ _ c.in-Ok.held.value.master.history _ _ _ _ trail (search rules) (search rules) event (search rules) c.requires.caller.1
