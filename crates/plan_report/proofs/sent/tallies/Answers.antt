use Rattle.std.proofs.Common.{take, length, ◌<◌, ◌^◌, arith, refl, rules, subst, sym}
use Rattle.std.specs.List.{All}
use Rattle.std.proofs.lemmas.List.{length-take-le}
use Rattle.plan_report.specs.Tally.{AreReleased, tally_of}
use Rattle.plan_report.proofs.Counted.{few-counted, released-counted, tallies-start}
use Rattle.plan_report.proofs.sent.tallies.Goals as goal

pub loop-sent-init : goal.loop-sent-init
loop-sent-init c = record {
  counted = tallies-start c.args.placed.now c.in_ok-tallies.tallies.items (c.in_ok-tallies.ensures.items_if_clones_equal (search rules));
  triggers = refl;
  few = omega arith;
  passed = c.new-places.ensures.passed c.args.placed.now 0;
}

pub count_frame-requires-clause-few : goal.count_frame-requires-clause-few
count_frame-requires-clause-few c =
    let within = c.loop-sent-test.true in
    let few : length c.args.trace.now < 2 ^ 63 = omega arith in
    let so_far = length-take-le c.loop-sent.sent-index c.args.trace.now (omega arith) in
    subst (All (λ count. (tally_of count).instances < 2 ^ 63)) (sym c.deref_mut.ensures.value)
    (few-counted (take c.loop-sent.sent-index c.args.trace.now) _ _ _ c.loop-sent.invariant.counted (omega arith))

pub count_frame-requires-clause-released : goal.count_frame-requires-clause-released
count_frame-requires-clause-released c =
    subst (AreReleased c.args.placed.now) (sym c.deref_mut.ensures.value)
    (released-counted (take c.loop-sent.sent-index c.args.trace.now) _ _ c.loop-sent.invariant.counted)
