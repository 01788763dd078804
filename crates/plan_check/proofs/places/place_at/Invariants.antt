use Rattle.plan_check.specs.Places.{IsPlacePassed}
use Rattle.plan_check.proofs.places.place_at.Given as goal

abbrev pub invariant-loop-next : goal.invariant-loop-next
invariant-loop-next l = IsPlacePassed l.placed l.cycle l.slot l.next
