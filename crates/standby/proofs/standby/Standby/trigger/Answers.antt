use Rattle.std.proofs.Common.{◌≡◌, ◌∙◌, ◌++◌, ◌∷◌, [], ℕ, List, Some, ap, sym, subst, arith}
use Rattle.std.proofs.lemmas.Grind.{common_steps}
use Rattle.admission_rules.specs.declared.Rules.{Rules}
use Rattle.master_core.specs.History.{IsLegal, next_of}
use Rattle.master_core.specs.declared.event.Event.{Event}
use Rattle.master_core.specs.declared.event.Event.TheVariants.{Open}
use Rattle.standby.specs.Following.{StandbyView, due_frames, planned_of}
use Rattle.trigger_codec.specs.Heard.{heard_of}
use Rattle.trigger_codec.specs.declared.heard.Heard.{Heard}
use Rattle.standby.proofs.Followed.{due-heard, heard-is, standby-opened}
use Rattle.standby.proofs.standby.Standby.trigger.Goals as goal

pub returns-then-ne-clause-fault : goal.returns-then-ne-clause-fault
returns-then-ne-clause-fault c =
    let slots = ap (λ (r : Rules). heard_of r.slots c.next-cycle.result c.args.frames.now) c.rules.ensures.rules in
    let cycle = ap (λ (n : ℕ). heard_of c.self.inside.master.rules.slots n c.args.frames.now) c.next-cycle.ensures.next in
    let heard = sym cycle ∙ sym slots ∙ sym c.hear.ensures.heard ∙ c.in-Some.is in (
      c.next-cycle.ensures.next ∙ ap (λ (v : StandbyView). next_of v.history) c.self.view_is,
      c.upcoming-upcoming.ensures.upcoming.order.mask ∙ ap planned_of c.self.view_is,
      λ same. let ne = c.if-ne.ensures in grind (arith, common_steps),
      (
        c.in-Some.heard.l,
        subst (λ (v : StandbyView). heard_of v.rules.slots (next_of v.history) c.args.frames.now ≡ Some c.in-Some.heard) c.self.view_is heard,
      ),
    )

pub returns-then-ne-clause-due : goal.returns-then-ne-clause-due
returns-then-ne-clause-due c due =
    let slots = ap (λ (r : Rules). heard_of r.slots c.next-cycle.result c.args.frames.now) c.rules.ensures.rules in
    let cycle = ap (λ (n : ℕ). heard_of c.self.inside.master.rules.slots n c.args.frames.now) c.next-cycle.ensures.next in
    let heard = sym cycle ∙ sym slots ∙ sym c.hear.ensures.heard ∙ c.in-Some.is in
    let here = subst (λ (v : StandbyView). c.args.frames.now ≡ due_frames v) (sym c.self.view_is) due in
    let said = due-heard c.self.inside.master.rules c.self.inside.master.history c.upcoming-upcoming.result c.args.frames.now c.self.invariant.0
    c.upcoming-upcoming.ensures.upcoming here in
    let same = ap (λ (h : Heard). h.mask) (heard-is _ c.in-Some.heard _ heard said) in
    absurd (let ne = c.if-ne.ensures in grind (arith, common_steps))

pub invariant_of-self-2 : goal.invariant_of-self-2
invariant_of-self-2 c =
    let rules = c.pass.ensures.rules ∙ c.in_ok-reserve.ensures.rules in
    let own = c.self.inside.master.history in
    let mask = c.upcoming-upcoming.result.mask in
    let standby = standby-opened c.self.inside.master.rules own (next_of own) mask c.pass.new.self.history c.self.invariant.0
    (c.pass.ensures.event ∙ ap (λ (h : List Event). h ++ Open (next_of h) mask ∷ []) c.in_ok-reserve.ensures.history)
    (subst (λ (r : Rules). IsLegal r c.pass.new.self.history) rules c.pass.ensures.legal) in
    (rw rules standby, c.pass.ensures.keeps ∙ c.in_ok-reserve.ensures.keeps ∙ c.self.invariant.1)
