use Rattle.std.proofs.Common.{arith}
use Rattle.stuff_bound.specs.StuffFault.{HasFirstSixth}
use Rattle.stuff_bound.proofs.Faults.{not_with_sixth, first_sixth_only, first_sixth, not_once_read}
use Rattle.stuff_bound.proofs.stuffing.unstuff.Goals as goal

-- the sixth equal bit that the loop found
found : (c : goal.After-drop-plain) → HasFirstSixth c.args.bits.now c.loop-place.place
found c = grind (arith, first_sixth)

pub returns-then-is_sixth-clause-completes : goal.returns-then-is_sixth-clause-completes
returns-then-is_sixth-clause-completes c plain h = absurd (not_with_sixth _ _ (found c) h.no_six)

pub returns-then-is_sixth-clause-six_equal : goal.returns-then-is_sixth-clause-six_equal
returns-then-is_sixth-clause-six_equal c place h2 = grind (arith, found, first_sixth_only)

pub returns-then-is_sixth-clause-ends : goal.returns-then-is_sixth-clause-ends
returns-then-is_sixth-clause-ends c len _ = (λ same. absurd (cc), λ ends. absurd (not_with_sixth _ _ (found c) ends.0.no_six))

pub returns-then-is_full-clause-six_equal : goal.returns-then-is_full-clause-six_equal
returns-then-is_full-clause-six_equal c place _ = (λ same. absurd (cc), λ six. absurd (not_once_read _ place _ c.loop-place-test.false c.loop-place.invariant.no_six six))

pub returns-clause-six_equal : goal.returns-clause-six_equal
returns-clause-six_equal c place _ = (λ same. absurd (cc), λ six. absurd (not_once_read _ place _ c.loop-place-test.false c.loop-place.invariant.no_six six))
