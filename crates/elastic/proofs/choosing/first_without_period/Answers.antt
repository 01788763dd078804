-- An operation more that leaves a choice.
use Rattle.std.proofs.Common.{◌≡◌, ◌+◌, ◌<◌, ◌≤◌, ◌++◌, ◌∷◌, [], length, take, sym, ap, ◌∙◌, arith, rules, subst, All}
use Rattle.std.proofs.lemmas.List.{take_all, take_more}
use Rattle.std.proofs.lemmas.List.Elements.{All-push}
use Rattle.elastic.specs.Combination.{HasChoice, choices}
use Rattle.elastic.proofs.choosing.first_without_period.Goals as goal

pub loop-place-preserved : goal.loop-place-preserved
loop-place-preserved c =
    let ops = c.args.ops.now in
    let place = c.loop-place.place in
    let op = c.index-ops-place.result in
    let inside : place < length ops = search rules in
    let more : take (place + 1) ops ≡ take place ops ++ op ∷ [] = take_more ops place op inside ∙ ap (λ x. take place ops ++ x ∷ []) (sym c.index-ops-place.is) in
    let some : 1 ≤ c.choices.result = omega (arith, c.if-choices-eq0.false) in
    rw more (All-push HasChoice (take place ops) op c.loop-place.invariant (rw c.choices.ensures.value at some))

pub returns-clause-none : goal.returns-clause-none
returns-clause-none c =
    let ops = c.args.ops.now in
    let all : take c.loop-place.place ops ≡ ops = take_all c.loop-place.place ops (omega (arith, c.loop-place-test.false, c.loop-place.auto.place-end)) in
    subst (λ xs. All HasChoice xs) all c.loop-place.invariant
