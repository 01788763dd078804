use Rattle.std.proofs.Common.{rules, arith, ◌≡◌, ◌≤◌, ◌+◌, drop, subst}
use Rattle.bus_trace.proofs.RowLemmas.{feeds, from-place, from-start, last-tail, last-text}
use Rattle.bus_trace.proofs.recent.last_from.Goals as goal

pub returns-then-left-eq0-clause-last : goal.returns-then-left-eq0-clause-last
returns-then-left-eq0-clause-last c = λ are.
    let text = c.args.text.now in
    let place = c.loop-place.place in
    let many : feeds (drop place text) ≡ c.args.most = omega (arith, c.loop-place.invariant.count, c.if-left-eq0.true) in
    last-text text c.args.most (drop place text)
    (from-place text place c.args.most are c.loop-place-test.true c.loop-place.invariant.within (search rules) many)

pub returns-then-left-eq0-clause-tail : goal.returns-then-left-eq0-clause-tail
returns-then-left-eq0-clause-tail c = λ are.
    let text = c.args.text.now in
    let place = c.loop-place.place in
    let many : feeds (drop place text) ≡ c.args.most = omega (arith, c.loop-place.invariant.count, c.if-left-eq0.true) in
    last-tail text c.args.most (drop place text) are
    (from-place text place c.args.most are c.loop-place-test.true c.loop-place.invariant.within (search rules) many)

pub returns-clause-last : goal.returns-clause-last
returns-clause-last c = λ are.
    let text = c.args.text.now in
    let place : c.loop-place.place ≡ 0 = omega (arith, c.loop-place-test.false) in
    let few : feeds text ≤ c.args.most =
    omega (arith, subst (λ k. feeds (drop k text) + c.loop-place.left ≡ c.args.most) place c.loop-place.invariant.count) in
    last-text text c.args.most text (from-start text c.args.most are few)
