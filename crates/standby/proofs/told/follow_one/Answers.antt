use Rattle.std.proofs.Common.{◌∙◌, ◌∷◌, List, IfErr, OnOk, ap, subst, sym}
use Rattle.std.proofs.lemmas.Result.{on_ok_weaker}
use Rattle.can_frame.specs.DataFrame.{DataFrame}
use Rattle.standby.specs.Handover.{IsBehind}
use Rattle.standby.specs.Telling.{FollowsOne, IsFollowFault}
use Rattle.standby.specs.declared.told.Told.{Told as ToldOf}
use Rattle.standby.specs.declared.told.Told.TheVariants.{Trigger}
use Rattle.standby.proofs.Behind.{due-change, due-trigger}
use Rattle.standby.proofs.Followed.{changed-core, opened-core}
use Rattle.standby.proofs.told.follow_one.Goals as goal

pub returns-in-Change-clause-behind : goal.returns-in-Change-clause-behind
returns-in-Change-clause-behind c whole rest legal behind =
    let rules = c.args.standby.now.rules in
    let own = c.args.standby.now.history in
    let at = subst (λ (t : ToldOf). IsBehind rules whole own (t ∷ rest)) c.in-Change.is behind in
    let due = due-change rules whole own c.in-Change.caller c.in-Change.change rest legal at in
    on_ok_weaker c.change.result
    (λ is. due.goes c.change.new.self.history (changed-core rules own c.in-Change.caller c.in-Change.change c.change.new.self.history is)) c.change.ensures.event

pub returns-in-Change-clause-due : goal.returns-in-Change-clause-due
returns-in-Change-clause-due c whole rest legal behind =
    let rules = c.args.standby.now.rules in
    let own = c.args.standby.now.history in
    let at = subst (λ (t : ToldOf). IsBehind rules whole own (t ∷ rest)) c.in-Change.is behind in
    let due = due-change rules whole own c.in-Change.caller c.in-Change.change rest legal at in
    c.change.ensures.due due.before due.from due.verdict due.trail due.same_core due.legal due.right due.accepted

pub returns-in-Trigger-clause-behind : goal.returns-in-Trigger-clause-behind
returns-in-Trigger-clause-behind c whole rest legal behind =
    let rules = c.args.standby.now.rules in
    let own = c.args.standby.now.history in
    let at = subst (λ (t : ToldOf). IsBehind rules whole own (t ∷ rest)) c.in-Trigger.is behind in
    let due = due-trigger rules whole own c.in-Trigger.frames rest legal at in
    on_ok_weaker c.trigger.result
    (λ is. due.goes c.trigger.new.self.history
    (opened-core rules own _ c.trigger.new.self.history is)) c.trigger.ensures.event

pub returns-in-Trigger-clause-due : goal.returns-in-Trigger-clause-due
returns-in-Trigger-clause-due c whole rest legal behind =
    let rules = c.args.standby.now.rules in
    let own = c.args.standby.now.history in
    let at = subst (λ (t : ToldOf). IsBehind rules whole own (t ∷ rest)) c.in-Trigger.is behind in
    let due = due-trigger rules whole own c.in-Trigger.frames rest legal at in
    c.trigger.ensures.due (c.as_slice.ensures.list ∙ due.frames_are)

pub returns-in-Change-clause-followed : goal.returns-in-Change-clause-followed
returns-in-Change-clause-followed c =
    subst (λ (t : ToldOf). OnOk c.change.result (FollowsOne c.args.standby.now t c.change.new.self.history)) (sym c.in-Change.is) c.change.ensures.event

pub returns-in-Change-clause-fault : goal.returns-in-Change-clause-fault
returns-in-Change-clause-fault c =
    subst (λ (t : ToldOf). IfErr c.change.result (IsFollowFault c.args.standby.now t)) (sym c.in-Change.is) c.change.ensures.fault

pub returns-in-Trigger-clause-followed : goal.returns-in-Trigger-clause-followed
returns-in-Trigger-clause-followed c =
    let thing = ap (λ (frames : List DataFrame). Trigger frames) c.as_slice.ensures.list ∙ sym c.in-Trigger.is in
    subst (λ (t : ToldOf). OnOk c.trigger.result (FollowsOne c.args.standby.now t c.trigger.new.self.history)) thing c.trigger.ensures.event

pub returns-in-Trigger-clause-fault : goal.returns-in-Trigger-clause-fault
returns-in-Trigger-clause-fault c =
    let thing = ap (λ (frames : List DataFrame). Trigger frames) c.as_slice.ensures.list ∙ sym c.in-Trigger.is in
    subst (λ (t : ToldOf). IfErr c.trigger.result (IsFollowFault c.args.standby.now t)) thing c.trigger.ensures.fault
