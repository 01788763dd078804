use Rattle.std.proofs.Common.{◌≡◌, ◌∙◌, false, ap, arith, subst, sym}
use Rattle.master_core.specs.Answers.{IsAnswer}
use Rattle.master_core.specs.Cores.{CoreView}
use Rattle.master_core.specs.History.{IsPlainlyLegal, next_of}
use Rattle.master_core.specs.Keeping.{MasterView}
use Rattle.master_core.proofs.Events.{few-accepted, room-used}
use Rattle.master_core.proofs.Whole.{answered-same, core-answer, placed-is, plain-more, state-by, whole-state}
use Rattle.master_core.proofs.master.Master.put_answer.Goals as goal

pub put-change-requires-clause-few : goal.put-change-requires-clause-few
put-change-requires-clause-few c = grind (arith, few-accepted)

pub put-change-requires-clause-short : goal.put-change-requires-clause-short
put-change-requires-clause-short c = λ on. let all = c.self.invariant.1 in absurd (cc)

pub put-change-requires-clause-answer : goal.put-change-requires-clause-answer
put-change-requires-clause-answer c = grind (arith, core-answer)

pub invariant_of-self : goal.invariant_of-self
invariant_of-self c =
    let spare = c.requires.spare in
    let same : c.self.inside.spare ≡ c.args.self.now.spare = ap (λ (v : MasterView). v.spare) c.self.view_is in
    let is = subst (λ (v : MasterView). IsAnswer v.rules v.history c.args.answer) (sym c.self.view_is) c.requires.answer in
    let to = core-answer _ _ c.known.ensures.core c.self.invariant.0 c.self.invariant.1 c.args.answer is in
    let all = ap (λ (v : CoreView). v.forgets) (c.put-change.ensures.state false to)
    ∙ (answered-same false c.self.inside.core c.args.answer.from c.args.answer.change c.args.answer.verdict).1
    ∙ c.self.invariant.1 in
    rw (c.put.ensures.events, c.put-change.ensures.change, c.put-change.ensures.answered) (
      state-by false _ _ all
          (c.put-change.ensures.history false _ c.args.caller to (whole-state _ _ c.known.ensures.core c.self.invariant.0 c.self.invariant.1)
          (placed-is _ _ c.known.ensures.core c.self.invariant.0 c.self.invariant.1) is.right),
      all,
      room-used _ _ _ _ _ c.self.invariant.2 (omega arith) c.put.ensures.room,
    )

pub returns-clause-rules : goal.returns-clause-rules
returns-clause-rules c =
    let is = subst (λ (v : MasterView). IsAnswer v.rules v.history c.args.answer) (sym c.self.view_is) c.requires.answer in
    let to = core-answer _ _ c.known.ensures.core c.self.invariant.0 c.self.invariant.1 c.args.answer is in
    ap (λ (v : CoreView). v.rules) (c.put-change.ensures.state false to)
    ∙ (answered-same false c.self.inside.core c.args.answer.from c.args.answer.change c.args.answer.verdict).0
    ∙ ap (λ (v : MasterView). v.rules) c.self.view_is

pub returns-clause-legal : goal.returns-clause-legal
returns-clause-legal c =
    let is = subst (λ (v : MasterView). IsAnswer v.rules v.history c.args.answer) (sym c.self.view_is) c.requires.answer in
    let to = core-answer _ _ c.known.ensures.core c.self.invariant.0 c.self.invariant.1 c.args.answer is in
    rw (c.put.ensures.events, c.put-change.ensures.change, c.put-change.ensures.answered)
    (c.put-change.ensures.history false _ c.args.caller to (whole-state _ _ c.known.ensures.core c.self.invariant.0 c.self.invariant.1)
    (placed-is _ _ c.known.ensures.core c.self.invariant.0 c.self.invariant.1) is.right).legal

pub returns-clause-plain : goal.returns-clause-plain
returns-clause-plain c from plain =
    let is = subst (λ (v : MasterView). IsAnswer v.rules v.history c.args.answer) (sym c.self.view_is) c.requires.answer in
    let was = subst (λ (v : MasterView). IsPlainlyLegal v.rules v.history) (sym c.self.view_is) plain in
    let now = subst (λ (v : MasterView). c.args.answer.from ≡ next_of v.history) (sym c.self.view_is) from in
    let to = core-answer _ _ c.known.ensures.core c.self.invariant.0 c.self.invariant.1 c.args.answer is in
    rw (c.put.ensures.events, c.put-change.ensures.change, c.put-change.ensures.answered)
    (plain-more false _ _ c.self.inside.core _
    (ap (λ (v : CoreView). v.rules) (c.put-change.ensures.state false to)
    ∙ (answered-same false c.self.inside.core c.args.answer.from c.args.answer.change c.args.answer.verdict).0)
    now
    (c.put-change.ensures.history false _ c.args.caller to (whole-state _ _ c.known.ensures.core c.self.invariant.0 c.self.invariant.1)
    (placed-is _ _ c.known.ensures.core c.self.invariant.0 c.self.invariant.1) is.right)
    was)
