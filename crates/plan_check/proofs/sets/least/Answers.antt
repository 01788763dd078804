use Rattle.bit_sets.specs.Sets.{has_bit}
use Rattle.plan_check.proofs.SlotSets.{least-found}
use Rattle.plan_check.proofs.sets.least.Goals as goal

pub returns : goal.returns
returns c = record { least = least-found (has_bit c.args.set) c.least_slot.result c.least_slot.ensures.least }
