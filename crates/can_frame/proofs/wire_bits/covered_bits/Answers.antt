-- The fields stand one behind the other, and all data bytes behind them.
use Rattle.std.proofs.Common.{◌≡◌, Bool, List, ◌++◌, ap₂, ◌∙◌, arith}
use Rattle.std.proofs.lemmas.List.{take_all}
use Rattle.can_frame.specs.Wire.{header, covered}
use Rattle.can_frame.proofs.wire_bits.covered_bits.Goals as goal

-- a field behind what stands before it
behind : {new old before field is : List Bool} → new ≡ old ++ field → old ≡ before → field ≡ is → new ≡ before ++ is
behind pushed old_is field_is = pushed ∙ ap₂ (λ sent bits. sent ++ bits) old_is field_is

pub returns-clause-value : goal.returns-clause-value
unfolding header covered
returns-clause-value c = grind (arith, take_all, behind)
