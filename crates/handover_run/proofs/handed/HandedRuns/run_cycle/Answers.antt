use Rattle.std.proofs.Common.{ap, refl, subst, sym, ◌≡◌, ◌∙◌}
use Rattle.replay_run.specs.Progress.{BeginWithTriggers}
use Rattle.standby.specs.Core.{core_of}
use Rattle.handover_run.specs.Following.{HearsDue}
use Rattle.handover_run.proofs.Behind.{still-handed}
use Rattle.handover_run.proofs.Carried.{opened-on}
use Rattle.handover_run.proofs.Due.{hears-due}
use Rattle.handover_run.proofs.Told.{each-opening, if-followed}
use Rattle.handover_run.proofs.handed.HandedRuns.run_cycle.Goals as goal

pub run_next-requires-clause-going : goal.run_next-requires-clause-going
run_next-requires-clause-going c =
    let can = c.requires.can in
    (can.0, can.2, c.make_ready.ensures.still.going can.0 can.2 can.3.going)

pub follow_opening-requires-clause-slots : goal.follow_opening-requires-clause-slots
follow_opening-requires-clause-slots c =
    let can = c.requires.can in
    let on = c.run_next.ensures.on can.0 can.2 (c.make_ready.ensures.still.going can.0 can.2 can.3.going) in
    if-followed can.0.rules can.1 c.args.self.now.standby (λ one. c.rules-slots.result.slots ≡ one.rules.slots) can.3.followed
    (λ one follows. ap (λ r. r.slots) (c.rules-slots.ensures.rules ∙ on.going.same_rules ∙ sym follows.same_rules))

pub follow_opening-requires-clause-due : goal.follow_opening-requires-clause-due
follow_opening-requires-clause-due c =
    let can = c.requires.can in
    let still = c.make_ready.ensures.still in
    let going = still.going can.0 can.2 can.3.going in
    let run = c.make_ready.new.self in
    if-followed can.0.rules can.1 c.args.self.now.standby (λ one. HearsDue one c.frames.result.now) can.3.followed
    (λ one follows. hears-due
    (record {
      placed = c.one_core.ensures.placed;
      next = c.one_core.ensures.next;
      changed = c.one_core.ensures.changed;
      openings = c.one_core.ensures.openings;
      order = c.one_core.ensures.order;
    })
    run.master.rules run.master.history c.frames.result.now one (ap core_of still.same ∙ sym can.3.same_core ∙ follows.same_core)
    (follows.same_rules ∙ sym going.same_rules)
    (subst (λ frames. BeginWithTriggers run.master.rules run.master.history frames) (sym c.frames.ensures.list) c.run_next.ensures.triggers))

pub returns-clause-on : goal.returns-clause-on
returns-clause-on c =
    each-opening c.args.self.now.standby c.follow_opening.new.standby c.follow_opening.result c.follow_opening.ensures.followed
    (λ follow setting whole trace is.
    let handed = still-handed setting whole trace c.args.self.now c.make_ready.new.self c.make_ready.ensures.still is in
    opened-on
    (record {
      placed = c.one_core.ensures.placed;
      next = c.one_core.ensures.next;
      changed = c.one_core.ensures.changed;
      openings = c.one_core.ensures.openings;
      order = c.one_core.ensures.order;
    })
    (record { plain = c.goes_on.ensures.plain }) setting whole trace (record c.args.self.now { bus = c.make_ready.new.self })
    (record c.args.self.now { bus = c.run_next.new.self; standby = c.follow_opening.new.standby }) c.run_next.new.self.segment handed
    (c.run_next.ensures.on setting trace handed.going) c.run_next.ensures.kept c.run_next.ensures.calls
    (λ cycle mask right. follow setting.rules whole cycle mask is.followed right) refl)
