use Rattle.std.proofs.Common.{◌≡◌, ◌+◌, ℕ, List, refl, length, sym, ap, ◌∙◌, subst, arith}
use Rattle.turn_lock.specs.declared.view.View.{View}
use Rattle.turn_lock.specs.Passes.{Known, split_from}
use Rattle.admission_rules.specs.declared.Rules.{Rules}
use Rattle.master_core.specs.declared.event.Event.{Event}
use Rattle.live_run.specs.Crew.{AreHired, HasLent, IsHired}
use Rattle.live_run.specs.declared.crew.Operator.{Operator}
use Rattle.live_run.proofs.Crews.{places-more}
use Rattle.live_run.proofs.crew.hire.Goals as goal

-- one more pass was made
lent-next : (v : View Event Rules) (n : ℕ) → HasLent v (split_from (record v { made = v.made + n; out = v.out + n })) (n + 1)
lent-next v n =
    let more : (a : ℕ) → a + n + 1 ≡ a + (n + 1) = λ a. omega arith in
    rw (more v.made, more v.out) refl

pub loop-preserved : goal.loop-preserved
loop-preserved c =
    let given = c.operator.ensures.given in
    let before = c.loop.invariant in
    let lent = c.operator.ensures.lent in
    let so_far = before.lent in
    let many : c.loop.pass.view.made ≡ c.args.pass.now.view.made + c.loop.counter = ap (λ (v : View Event Rules). v.made) so_far in
    let made : c.loop.pass.view.made ≡ c.loop.counter = omega (arith, many, c.requires.first) in
    let long : length c.loop.operators.items ≡ c.loop.counter = sym c.loop.operators.ok.0 ∙ before.count in
    record {
      hired = subst (λ (l : List Operator). AreHired c.args.shared.now l) (sym c.in_ok-push.ensures.items)
          (places-more (λ k o. IsHired c.args.shared.now (k + 1) o) c.loop.operators.items _ before.hired (record {
            standing = c.operator.ensures.made;
            number_is = ap (λ (k : Known Event Rules). k.view.number) given ∙ ap (λ n. n + 1) (made ∙ sym long);
            none = ap (λ (k : Known Event Rules). k.view.mine) given;
          }));
      count = grind (arith);
      room = grind (arith);
      lent = ap (λ (k : Known Event Rules). k.view) lent ∙ (ap split_from so_far ∙ lent-next c.args.pass.now.view c.loop.counter);
      standing = c.operator.ensures.standing;
    }
