use Rattle.std.proofs.Common.{arith}
use Rattle.bit_sets.specs.Sets.{most_slots}
use Rattle.plan_report.proofs.OneOfSlot.{zeros-at}
use Rattle.plan_report.proofs.current.SlotPlaces.new.Goals as goal

pub returns : goal.returns
returns c = record {
  passed = λ placed cycle slot place p known before there of_slot.
      let none = zeros-at most_slots slot in absurd (omega arith);
}
