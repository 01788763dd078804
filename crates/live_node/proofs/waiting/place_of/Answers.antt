use Rattle.std.proofs.Common.{sym, ◌∙◌, arith}
use Rattle.live_node.proofs.Boxes.{box_of-at, box_of-none, nobody, read-identifier}
use Rattle.live_node.proofs.waiting.place_of.Goals as goal

pub returns-then-id-clause-own : goal.returns-then-id-clause-own
returns-then-id-clause-own c = λ d.
    read-identifier c.args.boxes.now c.loop-place.place c.index-boxes-place.result d c.loop-place-test.true c.index-boxes-place.is
    ∙ sym c.id.ensures.id ∙ c.if-id.true

pub returns-then-id-clause-found : goal.returns-then-id-clause-found
returns-then-id-clause-found c = λ d.
    box_of-at c.args.id c.args.boxes.now c.loop-place.place d c.loop-place-test.true (λ k early. c.loop-place.invariant.before k d early)
    (read-identifier c.args.boxes.now c.loop-place.place c.index-boxes-place.result d c.loop-place-test.true c.index-boxes-place.is
    ∙ sym c.id.ensures.id ∙ c.if-id.true)

pub returns-clause-none : goal.returns-clause-none
returns-clause-none c = λ _.
    box_of-none c.args.id c.args.boxes.now nobody
    (λ k within. c.loop-place.invariant.before k nobody (omega (arith, within, c.loop-place-test.false)))
