use Rattle.std.proofs.Common.{◌∙◌, ap}
use Rattle.std.proofs.lemmas.Nat.{xor_lt}
use Rattle.bit_sets.specs.Sets.{has_bit}
use Rattle.plan_check.specs.PlanKept.{differ}
use Rattle.plan_check.proofs.SlotSets.{has_bit-symmetric}
use Rattle.plan_check.proofs.sets.symmetric_difference.Goals as goal

pub from_bits-requires : goal.from_bits-requires
from_bits-requires c = xor_lt 96 c.bits.result c.bits-2.result c.bits.ensures.below c.bits-2.ensures.below

pub returns : goal.returns
returns c = record {
  slots = λ slot known.
      ap (λ set. has_bit set slot) c.from_bits.ensures.number
      ∙ has_bit-symmetric c.bits.result c.bits-2.result slot
      ∙ ap (λ set. differ (has_bit set slot) (has_bit c.bits-2.result slot)) c.bits.ensures.number
      ∙ ap (λ set. differ (has_bit c.args.one slot) (has_bit set slot)) c.bits-2.ensures.number;
}
