use Rattle.std.proofs.Common.{◌≡◌, ◌+◌, ◌∷◌, ◌∙◌, List, drop, ap, subst, sym, arith, rules}
use Rattle.std.proofs.lemmas.List.{drop_more}
use Rattle.admission_rules.specs.declared.Rules.{Rules}
use Rattle.master_core.specs.History.{IsLegal}
use Rattle.standby.specs.Handover.{IsBehind}
use Rattle.standby.specs.declared.told.Told.{Told as ToldOf}
use Rattle.standby.proofs.Telling.{follows_next, stops_there}
use Rattle.standby.proofs.told.follow.Goals as goal

pub returns-in_err-follow_one-clause-stopped : goal.returns-in_err-follow_one-clause-stopped
returns-in_err-follow_one-clause-stopped c =
    let was = c.loop-one.invariant in
    let stop = stops_there c.args.standby.now c.loop-one.standby c.args.told.now c.loop-one.one-index c.one-item.result c.follow_one.new.standby.history _
    c.loop-one-test.true c.one-item.is was.rules was.followed c.in_err-follow_one.ensures.same c.in_err-follow_one.ensures.fault in
    search (rules, stop)

pub loop-one-preserved : goal.loop-one-preserved
loop-one-preserved c =
    let was = c.loop-one.invariant in
    record {
      rules = c.follow_one.ensures.rules ∙ was.rules;
      next = omega (arith, was.next, c.follow_one.ensures.next);
      followed =
          follows_next c.args.standby.now c.loop-one.standby c.args.told.now c.loop-one.one-index c.one-item.result c.follow_one.new.standby.history
          c.loop-one-test.true c.one-item.is was.rules was.followed c.in_ok-follow_one.ensures.followed;
      behind = λ whole legal start.
          let own = c.loop-one.standby.history in
          let rest = drop (c.loop-one.one-index + 1) c.args.told.now in
          let split : drop c.loop-one.one-index c.args.told.now ≡ c.one-item.result ∷ rest =
          drop_more c.args.told.now c.loop-one.one-index c.one-item.result c.loop-one-test.true
          ∙ ap (λ (one : ToldOf). one ∷ rest) (sym c.one-item.is) in
          let left = subst (λ (list : List ToldOf). IsBehind c.args.standby.now.rules whole own list) split (was.behind whole legal start) in
          let at = subst (λ (rules : Rules). IsBehind rules whole own (c.one-item.result ∷ rest)) (sym was.rules) left in
          let legal_at = subst (λ (rules : Rules). IsLegal rules whole) (sym was.rules) legal in
          subst (λ (rules : Rules). IsBehind rules whole c.follow_one.new.standby.history rest) was.rules
          (c.in_ok-follow_one.ensures.behind whole rest legal_at at);
    }
