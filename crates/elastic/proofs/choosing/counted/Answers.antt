-- One operation more, with which the number of combinations is too great or not.
use Rattle.std.proofs.Common.{◌≡◌, ◌+◌, ◌*◌, ◌<◌, length, take, sym, ap, ◌∙◌, arith, rules}
use Rattle.elastic.specs.Combination.{combinations}
use Rattle.elastic.proofs.Products.{next_count, part_count}
use Rattle.elastic.proofs.choosing.counted.Goals as goal

pub returns-then-count-gt-MOST_COMBINATIONS-clause-many : goal.returns-then-count-gt-MOST_COMBINATIONS-clause-many
returns-then-count-gt-MOST_COMBINATIONS-clause-many c =
    let ops = c.args.ops.now in
    let place = c.loop-op.op-index in
    let inside : place < length ops = search rules in
    let more : c.loop-op.count * c.choices.result ≡ combinations (take (place + 1) ops)
    = ap (λ n. n * c.choices.result) c.loop-op.invariant.counted ∙ ap (λ n. combinations (take place ops) * n) c.choices.ensures.value
    ∙ sym (next_count ops place c.op-item.result inside c.op-item.is) in
    record {
      place = place;
      within = inside;
      few = omega (arith, c.loop-op.invariant.counted, c.loop-op.invariant.few);
      counted = more;
      passed = c.if-count-gt-MOST_COMBINATIONS.true;
      many = omega (arith, c.if-count-gt-MOST_COMBINATIONS.true, more, part_count ops (place + 1) c.requires.some);
    }

pub loop-op-preserved : goal.loop-op-preserved
loop-op-preserved c =
    let ops = c.args.ops.now in
    let place = c.loop-op.op-index in
    let inside : place < length ops = search rules in
    record {
      counted = ap (λ n. n * c.choices.result) c.loop-op.invariant.counted ∙ ap (λ n. combinations (take place ops) * n) c.choices.ensures.value
          ∙ sym (next_count ops place c.op-item.result inside c.op-item.is);
      few = omega (arith, c.if-count-gt-MOST_COMBINATIONS.false);
    }
