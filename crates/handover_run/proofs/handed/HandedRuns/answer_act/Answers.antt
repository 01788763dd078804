use Rattle.std.proofs.Common.{◌∷◌, ◌++◌, [], ◌∙◌, ap, subst}
use Rattle.std.specs.Prelude.{◌&&◌}
use Rattle.master_core.specs.Accepted.{refuses_nothing}
use Rattle.replay_run.proofs.Shared.{some-event}
use Rattle.handover_run.specs.Following.{IsRightBehind, IsStillFollowing}
use Rattle.handover_run.proofs.Carried.{answered-on, right-told}
use Rattle.handover_run.proofs.Told.{each-answer, if-followed}
use Rattle.handover_run.proofs.handed.HandedRuns.answer_act.Goals as goal

pub last-event-requires : goal.last-event-requires
last-event-requires c =
    let can = c.requires.can in
    let on = c.in_ok-answer.ensures.on can.0 can.2 can.3.going in
    record { some = some-event c.answer.new.self.master.history on.event c.args.self.now.bus.master.history on.history }

pub follow_answer-requires-clause-right : goal.follow_answer-requires-clause-right
follow_answer-requires-clause-right c =
    let can = c.requires.can in
    let is = can.3 in
    let on = c.in_ok-answer.ensures.on can.0 can.2 is.going in
    let last = c.last-event.ensures.last c.args.self.now.bus.master.history on.event on.history in
    if-followed can.0.rules can.1 c.args.self.now.standby (λ one. IsRightBehind one c.last-event.result.now) is.followed
    (λ one follows. right-told
    (record {
      placed = c.one_core.ensures.placed;
      next = c.one_core.ensures.next;
      changed = c.one_core.ensures.changed;
      openings = c.one_core.ensures.openings;
      order = c.one_core.ensures.order;
    })
    (record { plain = c.goes_on.ensures.plain }) can.0 can.1 can.2 c.args.self.now (record c.args.self.now { bus = c.answer.new.self }) [] is on
    one c.last-event.result.now follows last)

pub returns-clause-on : goal.returns-clause-on
returns-clause-on c =
    each-answer c.args.self.now.standby c.follow_answer.new.standby c.last-event.result.now c.follow_answer.result c.follow_answer.ensures.followed
    (λ follow setting whole trace is.
    let on = c.in_ok-answer.ensures.on setting trace is.going in
    let last = c.last-event.ensures.last c.args.self.now.bus.master.history on.event on.history in
    answered-on
    (record {
      placed = c.one_core.ensures.placed;
      next = c.one_core.ensures.next;
      changed = c.one_core.ensures.changed;
      openings = c.one_core.ensures.openings;
      order = c.one_core.ensures.order;
    })
    (record { plain = c.goes_on.ensures.plain }) setting whole trace c.args.self.now
    (record c.args.self.now {
      bus = c.answer.new.self;
      standby = c.follow_answer.new.standby;
      quiet = c.args.self.now.quiet && c.refuses_nothing.result;
    })
    [] is on c.args.caller c.args.act.now c.in_ok-answer.ensures.kept c.in_ok-answer.ensures.calls
    (subst (λ event. IsStillFollowing setting.rules (whole ++ event ∷ []) c.follow_answer.new.standby) last (follow setting.rules whole is.followed))
    (ap (λ b. c.args.self.now.quiet && b) (c.refuses_nothing.ensures.test ∙ ap refuses_nothing last)))
