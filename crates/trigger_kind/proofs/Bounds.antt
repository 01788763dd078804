-- What holds of each kind of trigger.
use Rattle.std.proofs.Common.{◌≡◌, ℕ, ◌<◌, ◌≤◌, arith}
use Rattle.trigger_kind.specs.declared.Triggers.{Triggers}
use Rattle.trigger_kind.specs.declared.Triggers.TheVariants.{One, Two}
use Rattle.trigger_kind.specs.Kind.{greatest_trigger, opening_identifier, opening_of, part_of, triggers_of}

-- the identifier of the last trigger frame is none above those of trigger frames
pub opening-low : (triggers : Triggers) → opening_of triggers ≤ greatest_trigger
opening-low One = omega arith
opening-low Two = omega arith

-- so an identifier above them opens no cycle
pub above-opens_not : (slots id : ℕ) → greatest_trigger < id → id ≡ opening_identifier slots → ⊥
above-opens_not slots id above same = omega (arith, above, same, opening-low (triggers_of slots))

-- one trigger frame fits into the trigger part
pub part-least : (triggers : Triggers) → 135 ≤ part_of triggers
part-least One = omega arith
part-least Two = omega arith
