-- A wheel whose lists have the same items.
use Rattle.std.proofs.Common.{◌≡◌, ◌≤◌, Option, None, sym, subst, arith}
use Rattle.profile.specs.Limits.{cycles_end}
use Rattle.planner_policies.specs.Plan.{IsValid, Ranking}
use Rattle.release_wheel.specs.declared.near.Near.{Near}
use Rattle.release_wheel.specs.declared.rows.Rows.{Rows}
use Rattle.release_wheel.specs.declared.wheel.Wheel.{Wheel}
use Rattle.release_wheel.specs.Near.{HasRows, IsStanding}
use Rattle.release_wheel.specs.Wheel.{IsWheelKept}

module _ (w : Wheel) (new : Rows) (e : new.entries.items ≡ w.rows.entries.items) (n : new.nexts.items ≡ w.rows.nexts.items)
    (l : new.lasts.items ≡ w.rows.lasts.items) (p : new.places.items ≡ w.rows.places.items) where
  pub kept-copied : (ranking : Ranking) → IsWheelKept ranking w → IsWheelKept ranking (record w { rows = new })
  kept-copied ranking kept = grind arith

-- where no entries are taken as near, a planning stands on a copy as on the first wheel
pub standing-copied : (all : Ranking) (near : Option Near) (w v : Wheel) → near ≡ None → IsStanding all near w
    → ((ranking : Ranking) → IsWheelKept ranking w → IsWheelKept ranking v) → v.cycle ≡ w.cycle → v.dues.waiting.slots ≡ w.dues.waiting.slots → IsStanding all None v
standing-copied all near w v none standing kept cycle slots = record {
  end = subst (λ c. c ≤ cycles_end) (sym cycle) standing.end;
  valid = subst (λ s. IsValid all.placed v.cycle s) (sym slots) (subst (λ c. IsValid all.placed c w.dues.waiting.slots) (sym cycle) standing.valid);
  rows = kept all (subst (λ n. HasRows all n w) none standing.rows);
}
