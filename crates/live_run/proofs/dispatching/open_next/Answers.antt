use Rattle.std.proofs.Common.{ap, ◌∙◌, subst}
use Rattle.master_core.specs.History.{next_of}
use Rattle.live_master.specs.Calls.{AfterWaiting}
use Rattle.live_master.specs.Within.{OpenedWithin}
use Rattle.live_run.proofs.Openings.{back-mine, back-seen, back-stays, on_err, opened-on, short-back}
use Rattle.live_run.proofs.dispatching.open_next.Goals as goal

pub returns-in_err-order-clause-memory : goal.returns-in_err-order-clause-memory
returns-in_err-order-clause-memory g c =
    on_err c.from_residual.result _ (back-seen c.loop.pass c.open_within.new.pass c.in_err-order.ensures.memory c.openings_of_dispatchers.ensures.openings
    c.args.shared.now.fixed c.args.pass.now.view.seen (c.loop.invariant.stays.number ∙ c.requires.dispatcher)
    c.loop.invariant.standing.facts c.in_err-order.ensures.standing.facts c.in_err-order.ensures.standing.legal c.loop.invariant.seen)

pub returns-in_err-order-clause-none : goal.returns-in_err-order-clause-none
returns-in_err-order-clause-none g c =
    on_err c.from_residual.result _ (ap next_of (back-mine c.loop.pass c.open_within.new.pass c.in_err-order.ensures.memory) ∙ c.loop.invariant.next)

pub returns-in-Opened-clause-opened : goal.returns-in-Opened-clause-opened
returns-in-Opened-clause-opened g c =
    opened-on c.args.shared.now.fixed c.args.pass.now.view.seen c.loop.entries c.in-Opened.order c.loop.pass c.open_within.new.pass
    (λ history later. c.one_call_more.ensures.front c.args.shared.now.fixed history later)
    (subst (λ o. AfterWaiting (λ one other. OpenedWithin c.args.shared.now.fixed c.loop.entries one other o) c.loop.pass c.open_within.new.pass)
    c.in-Opened.is c.in_ok-order.ensures.within)
    c.in_ok-order.ensures.standing.legal c.loop.invariant.seen

pub returns-in_err-reserve-in-Short-clause-memory : goal.returns-in_err-reserve-in-Short-clause-memory
returns-in_err-reserve-in-Short-clause-memory g c =
    let back = short-back c.args.shared.now.fixed c.loop.entries c.in-Short.needed c.loop.pass c.open_within.new.pass
    (subst (λ o. AfterWaiting (λ one other. OpenedWithin c.args.shared.now.fixed c.loop.entries one other o) c.loop.pass c.open_within.new.pass)
    c.in-Short.is c.in_ok-order.ensures.within) in
    on_err c.from_residual-in_err-reserve-in-Short.result _ (back-seen c.loop.pass c.open_within.new.pass back c.openings_of_dispatchers.ensures.openings
    c.args.shared.now.fixed c.args.pass.now.view.seen (c.loop.invariant.stays.number ∙ c.requires.dispatcher)
    c.loop.invariant.standing.facts c.in_ok-order.ensures.standing.facts c.in_ok-order.ensures.standing.legal c.loop.invariant.seen)

pub returns-in_err-reserve-in-Short-clause-none : goal.returns-in_err-reserve-in-Short-clause-none
returns-in_err-reserve-in-Short-clause-none g c =
    let back = short-back c.args.shared.now.fixed c.loop.entries c.in-Short.needed c.loop.pass c.open_within.new.pass
    (subst (λ o. AfterWaiting (λ one other. OpenedWithin c.args.shared.now.fixed c.loop.entries one other o) c.loop.pass c.open_within.new.pass)
    c.in-Short.is c.in_ok-order.ensures.within) in
    on_err c.from_residual-in_err-reserve-in-Short.result _
    (ap next_of (back-mine c.loop.pass c.open_within.new.pass back) ∙ c.loop.invariant.next)

pub loop-preserved : goal.loop-preserved
loop-preserved g c =
    let back = short-back c.args.shared.now.fixed c.loop.entries c.in-Short.needed c.loop.pass c.open_within.new.pass
    (subst (λ o. AfterWaiting (λ one other. OpenedWithin c.args.shared.now.fixed c.loop.entries one other o) c.loop.pass c.open_within.new.pass)
    c.in-Short.is c.in_ok-order.ensures.within) in
    record {
      standing = c.in_ok-order.ensures.standing;
      next = ap next_of (back-mine c.loop.pass c.open_within.new.pass back) ∙ c.loop.invariant.next;
      seen = back-seen c.loop.pass c.open_within.new.pass back c.openings_of_dispatchers.ensures.openings
          c.args.shared.now.fixed c.args.pass.now.view.seen (c.loop.invariant.stays.number ∙ c.requires.dispatcher)
          c.loop.invariant.standing.facts c.in_ok-order.ensures.standing.facts c.in_ok-order.ensures.standing.legal c.loop.invariant.seen;
      spare = c.in_ok-reserve-in-Short.ensures.room;
      layout = c.in_ok-reserve-in-Short.ensures.layout ∙ c.loop.invariant.layout;
      same = c.in_ok-reserve-in-Short.ensures.same ∙ c.loop.invariant.same;
      stays = back-stays c.loop.pass c.open_within.new.pass back c.args.pass.now.view c.loop.invariant.stays;
    }
