-- Lists of entries with the same instances in a cycle plan it alike. Those that are near have the instances of all entries
-- until others begin.
use Rattle.std.proofs.Common.{◌≡◌, ℕ, zero, suc, ◌+◌, ◌-◌, ◌<◌, ◌≤◌, Bool, true, false, nat_lt, if◌then◌else◌, Option, None, Some, List, refl, sym, ◌∙◌, subst, Result, IfOk, IfErr, arith}
use Rattle.std.proofs.lemmas.Bool.{ltb-true}
use Rattle.requirement_table.specs.declared.entries.Placed.{Placed}
use Rattle.bit_sets.specs.Sets.{has_bit, most_slots, set_of}
use Rattle.requirement_table.specs.Table.{IsWellPlaced, instance_in, near_of, releases_in, width_in}
use Rattle.requirement_table.proofs.Shared.{instance_in-near_of, releases_in-near_of}
use Rattle.bit_sets.proofs.Shared.{set_of-same, sum_where-same, sum_where-costs}
use Rattle.planner_policies.specs.declared.state.Miss.{Miss}
use Rattle.planner_policies.specs.Due.{IsPlanned}
use Rattle.planner_policies.specs.Plan.{HasNoMissIn, IsMissIn, IsValid, Planning, Ranking, is_missed_in, left_after, planned_in, planning_of}
use Rattle.planner_policies.proofs.Shared.{AreAlike, alike-from_same, left-alike, left-valid, missed-alike, planned-alike}
use Rattle.release_wheel.specs.declared.near.Near.{Near}
use Rattle.release_wheel.specs.declared.planner.CyclePlan.{CyclePlan}
use Rattle.release_wheel.specs.declared.wheel.Wheel.{Wheel}
use Rattle.release_wheel.specs.Near.{HasRows, IsAlike, IsForgotten, IsStanding, at_wheel, until_of}
use Rattle.release_wheel.specs.Passed.{IsPassed}
use Rattle.release_wheel.specs.Wheel.{IsWheelKept}

pub alike-itself : (all : Ranking) (c : ℕ) → IsAlike all all c
alike-itself all c = record { policy = refl; fill = refl; instances = λ slot. refl; releases = λ slot. refl }

-- the entries that are not over by a cycle and begin before another one, between these two
pub alike-near : (all near : Ranking) (since until c : ℕ) → IsWellPlaced all.placed → near ≡ record all { placed = near_of since until all.placed }
    → since ≤ c → c < until → IsAlike all near c
alike-near all near since until c well is from before = grind (arith, instance_in-near_of, releases_in-near_of)

module _ (all : Ranking) (placed : List Placed) (window c slots : ℕ)
    (instances : (slot : ℕ) → instance_in placed slot c ≡ instance_in all.placed slot c)
    (releases : (slot : ℕ) → releases_in placed c slot ≡ releases_in all.placed c slot) where
  abbrev plan : Planning
  plan = planning_of all window c slots

  abbrev part : Planning
  part = record plan { placed = placed }

  abbrev before : ℕ → Bool
  before = has_bit slots

  alike : AreAlike all.policy all.placed placed c c
  alike = alike-from_same all.policy all.placed placed c c refl (λ slot known. instances slot) (λ slot known. releases slot)

  planned-slot : (slot : ℕ) → slot < most_slots → planned_in part c before slot ≡ planned_in plan c before slot
  planned-slot = planned-alike plan placed c slots c c before before alike (λ slot known. refl)

  left-slot : (slot : ℕ) → slot < most_slots → left_after part c before slot ≡ left_after plan c before slot
  left-slot = left-alike plan placed c slots c c before before alike (λ slot known. refl)

  missed-slot : (slot : ℕ) → slot < most_slots → is_missed_in part c before slot ≡ is_missed_in plan c before slot
  missed-slot = missed-alike plan placed c slots c c before before alike (λ slot known. refl)

  planned-set : set_of most_slots (planned_in part c before) ≡ set_of most_slots (planned_in plan c before)
  planned-set = set_of-same most_slots (planned_in part c before) (planned_in plan c before) planned-slot

  left-set : set_of most_slots (left_after part c before) ≡ set_of most_slots (left_after plan c before)
  left-set = set_of-same most_slots (left_after part c before) (left_after plan c before) left-slot

  none-missed : HasNoMissIn part c before → HasNoMissIn plan c before
  none-missed none slot known = sym (missed-slot slot known) ∙ none slot known

  same-width : width_in placed c (planned_in part c before) ≡ width_in all.placed c (planned_in plan c before)
  same-width = grind (arith, sum_where-same, planned-slot, sum_where-costs, alike)

  planned-here : (mask width next : ℕ) → IsPlanned part c before mask width next → IsPlanned plan c before mask width next
  planned-here mask width next planned = grind (arith, planned-set, same-width, left-set, none-missed)

  missed-here : (slot release : ℕ) → IsMissIn part c before slot release → IsMissIn plan c before slot release
  missed-here slot release miss = grind (arith, missed-slot)

  passed-here : IsPassed part → IsPassed plan
  passed-here passed = record {
    planned = sym planned-set ∙ passed.planned;
    same = record { none_missed = none-missed passed.same.none_missed; left = passed.same.left ∙ left-set };
  }

-- what is known of the planning of one list is known of the other
module _ (all some : Ranking) (window c slots : ℕ) (alike : IsAlike all some c) where
  same : some ≡ record all { placed = some.placed }
  same = grind (arith, alike)

  pub planned-all : (mask width next : ℕ) → IsPlanned (planning_of some window c slots) c (has_bit slots) mask width next
      → IsPlanned (planning_of all window c slots) c (has_bit slots) mask width next
  planned-all mask width next planned =
      let P : Ranking → Type 0 = λ r. IsPlanned (planning_of r window c slots) c (has_bit slots) mask width next in
      planned-here all some.placed window c slots alike.instances alike.releases mask width next (subst P same planned)

  pub missed-all : (slot release : ℕ) → IsMissIn (planning_of some window c slots) c (has_bit slots) slot release
      → IsMissIn (planning_of all window c slots) c (has_bit slots) slot release
  missed-all slot release miss =
      let P : Ranking → Type 0 = λ r. IsMissIn (planning_of r window c slots) c (has_bit slots) slot release in
      missed-here all some.placed window c slots alike.instances alike.releases slot release (subst P same miss)

  pub passed-all : IsPassed (planning_of some window c slots) → IsPassed (planning_of all window c slots)
  passed-all passed =
      let P : Ranking → Type 0 = λ r. IsPassed (planning_of r window c slots) in
      passed-here all some.placed window c slots alike.instances alike.releases (subst P same passed)

-- cycles that are passed leave the state valid
pub valid-passed : (all : Ranking) (from slots : ℕ) → IsWellPlaced all.placed → IsValid all.placed from slots → (n : ℕ)
    → ((c : ℕ) → from ≤ c → c < from + n → IsPassed (planning_of all 0 c slots)) → IsValid all.placed (from + n) slots
valid-passed all from slots well valid zero passed = subst (λ c. IsValid all.placed c slots) (omega arith) valid
valid-passed all from slots well valid (suc n) passed =
    let so = valid-passed all from slots well valid n (λ c onward less. passed c onward (omega arith)) in
    let last = (passed (from + n) (omega arith) (omega arith)).same in
    grind (arith, left-valid)

-- those whose rows it has plan as all entries do
pub alike-at : (all : Ranking) (near : Option Near) (w : Wheel) → IsWellPlaced all.placed → HasRows all near w → (c : ℕ) → w.cycle ≤ c
    → (w.cycle < until_of near → c < until_of near) → IsAlike all (at_wheel near all w.cycle) c
alike-at all None w well rows c from before = alike-itself all c
alike-at all (Some near) w well rows c from before = pick (nat_lt w.cycle near.until) refl
  where
    pick : (b : Bool) → nat_lt w.cycle near.until ≡ b → IsAlike all (if b then near.ranked else all) c
    pick false is = alike-itself all c
    pick true is =
        let less = ltb-true w.cycle near.until is in
        let at = rows less in
        let since = at.since in
        alike-near all near.ranked near.since near.until c well at.entries (omega arith) (before less)

pub kept-at : (all : Ranking) (near : Option Near) (w : Wheel) → HasRows all near w → w.cycle < until_of near → IsWheelKept (at_wheel near all w.cycle) w
kept-at all near w rows before = grind arith

-- a wheel that goes on keeps its rows
pub rows-onward : (all : Ranking) (near : Option Near) (old new : Wheel) → HasRows all near old → old.cycle ≤ new.cycle
    → IsWheelKept (at_wheel near all old.cycle) new → HasRows all near new
rows-onward all near old new rows onward kept = grind arith

-- a wheel of all entries, where none are taken as near
pub rows-of-all : (all : Ranking) (near : Option Near) (w : Wheel) → IsForgotten near → IsWheelKept all w → HasRows all near w
rows-of-all all near w none kept = grind arith

-- a cycle is planned by the rows that the wheel has, from a wheel that stands where it stood
module _ (all some : Ranking) (near : Option Near) (window : ℕ) (old mid new : Wheel) (r : Result CyclePlan Miss) (well : IsWellPlaced all.placed)
    (cycle : mid.cycle ≡ old.cycle) (slots : mid.dues.waiting.slots ≡ old.dues.waiting.slots) (is : some ≡ at_wheel near all mid.cycle) (rows : HasRows all near mid) where
  alike-here : IsAlike all some mid.cycle
  alike-here = subst (λ q. IsAlike all q mid.cycle) (sym is) (alike-at all near mid well rows mid.cycle (omega arith) (λ before. before))

  planned-old : (mask width next : ℕ) → IsPlanned (planning_of some window mid.cycle mid.dues.waiting.slots) mid.cycle (has_bit mid.dues.waiting.slots) mask width next
      → IsPlanned (planning_of all window old.cycle old.dues.waiting.slots) old.cycle (has_bit old.dues.waiting.slots) mask width next
  planned-old mask width next planned =
      let P : ℕ → Type 0 = λ c. IsPlanned (planning_of all window c mid.dues.waiting.slots) c (has_bit mid.dues.waiting.slots) mask width next in
      let Q : ℕ → Type 0 = λ s. IsPlanned (planning_of all window old.cycle s) old.cycle (has_bit s) mask width next in
      subst Q slots (subst P cycle (planned-all all some window mid.cycle mid.dues.waiting.slots alike-here mask width next planned))

  missed-old : (slot release : ℕ) → IsMissIn (planning_of some window mid.cycle mid.dues.waiting.slots) mid.cycle (has_bit mid.dues.waiting.slots) slot release
      → IsMissIn (planning_of all window old.cycle old.dues.waiting.slots) old.cycle (has_bit old.dues.waiting.slots) slot release
  missed-old slot release miss = grind (arith, missed-all, alike-here)

  pub stepped-planned : IfOk r (λ p. IsPlanned (planning_of some window mid.cycle mid.dues.waiting.slots) mid.cycle (has_bit mid.dues.waiting.slots) p.mask p.width new.dues.waiting.slots)
      → IfOk r (λ p. IsPlanned (planning_of all window old.cycle old.dues.waiting.slots) old.cycle (has_bit old.dues.waiting.slots) p.mask p.width new.dues.waiting.slots)
  stepped-planned = pick r
    where
      pick : (r' : Result CyclePlan Miss)
          → IfOk r' (λ p. IsPlanned (planning_of some window mid.cycle mid.dues.waiting.slots) mid.cycle (has_bit mid.dues.waiting.slots) p.mask p.width new.dues.waiting.slots)
          → IfOk r' (λ p. IsPlanned (planning_of all window old.cycle old.dues.waiting.slots) old.cycle (has_bit old.dues.waiting.slots) p.mask p.width new.dues.waiting.slots)
      pick r' planned = grind (arith, planned-old)

  pub stepped-missed : IfErr r (λ miss. IsMissIn (planning_of some window mid.cycle mid.dues.waiting.slots) mid.cycle (has_bit mid.dues.waiting.slots) miss.slot miss.release)
      → IfErr r (λ miss. IsMissIn (planning_of all window old.cycle old.dues.waiting.slots) old.cycle (has_bit old.dues.waiting.slots) miss.slot miss.release)
  stepped-missed = pick r
    where
      pick : (r' : Result CyclePlan Miss)
          → IfErr r' (λ miss. IsMissIn (planning_of some window mid.cycle mid.dues.waiting.slots) mid.cycle (has_bit mid.dues.waiting.slots) miss.slot miss.release)
          → IfErr r' (λ miss. IsMissIn (planning_of all window old.cycle old.dues.waiting.slots) old.cycle (has_bit old.dues.waiting.slots) miss.slot miss.release)
      pick r' missed = grind (arith, missed-old)

-- where a planner stands that stood there, when a cycle is planned or missed
module _ (all : Ranking) (near : Option Near) (window : ℕ) (mid new : Wheel) (well : IsWellPlaced all.placed) (valid : IsValid all.placed mid.cycle mid.dues.waiting.slots) where
  pub onward-after : (r : Result CyclePlan Miss) → IfOk r (λ _. new.cycle ≡ mid.cycle + 1) → IfErr r (λ _. new.cycle ≡ mid.cycle) → mid.cycle ≤ new.cycle
  onward-after r next same = grind (arith, same)

  pub valid-after : (r : Result CyclePlan Miss)
      → IfOk r (λ p. IsPlanned (planning_of all window mid.cycle mid.dues.waiting.slots) mid.cycle (has_bit mid.dues.waiting.slots) p.mask p.width new.dues.waiting.slots)
      → IfOk r (λ _. new.cycle ≡ mid.cycle + 1) → IfErr r (λ _. new.cycle ≡ mid.cycle) → IfErr r (λ _. new.dues.waiting.slots ≡ mid.dues.waiting.slots)
      → IsValid all.placed new.cycle new.dues.waiting.slots
  valid-after r planned next same_cycle same_slots = grind (arith, left-valid)

-- cycles are passed by the rows that the wheel has
module _ (all some : Ranking) (near : Option Near) (old new : Wheel) (well : IsWellPlaced all.placed) (standing : IsStanding all near old)
    (is : some ≡ at_wheel near all old.cycle) (before : old.cycle < until_of near) (onward : old.cycle ≤ new.cycle) (within : new.cycle ≤ until_of near)
    (slots : new.dues.waiting.slots ≡ old.dues.waiting.slots) (kept : IsWheelKept some new)
    (passed : (window c : ℕ) → old.cycle ≤ c → c < new.cycle → IsPassed (planning_of some window c old.dues.waiting.slots)) where
  pub near-passed : (window c : ℕ) → old.cycle ≤ c → c < new.cycle → IsPassed (planning_of all window c old.dues.waiting.slots)
  near-passed window c from less =
      let alike : IsAlike all some c = subst (λ q. IsAlike all q c) (sym is) (alike-at all near old well standing.rows c from (λ _. omega arith)) in
      passed-all all some window c old.dues.waiting.slots alike (passed window c from less)

  pub near-valid : (c : ℕ) → old.cycle ≤ c → c ≤ new.cycle → IsValid all.placed c old.dues.waiting.slots
  near-valid c from to =
      subst (λ at. IsValid all.placed at old.dues.waiting.slots) (omega arith)
      (valid-passed all old.cycle old.dues.waiting.slots well standing.valid (c - old.cycle) (λ at onward less. near-passed 0 at onward (omega arith)))

  pub near-standing : IsStanding all near new
  near-standing = grind (arith, near-valid, rows-onward)
