-- One bit after another, each twice the value so far and the bit.
use Rattle.std.proofs.Common.{arith, lit<}
use Rattle.stuff_bound.specs.Fields.{bits}
use Rattle.stuff_bound.proofs.Shared.{length-bits}
use Rattle.can_frame.proofs.Steps.{went_none, expects_more, field_more, value_more}
use Rattle.can_frame.proofs.reader.Reader.field.Goals as goal

pub loop-init : goal.loop-init
unfolding bits
loop-init c = grind (arith, went_none, lit<)

pub bit-requires : goal.bit-requires
bit-requires c = record {
  expects =
      expects_more c.args.self.now c.loop.self (bits c.loop.counter c.loop.value) c.args.width c.requires.expects c.loop.invariant.went
      (omega (arith, length-bits c.loop.counter c.loop.value));
}

pub loop-preserved : goal.loop-preserved
loop-preserved c = record {
  went = field_more _ c.loop.self _ _ _ _ _ c.loop.invariant.went c.in_ok-bit.ensures.ok c.from.ensures;
  below = value_more c.loop.counter c.loop.value _ _ c.from.ensures c.loop.invariant.below;
  last = λ some. c.in_ok-bit.ensures.last;
}
