-- Lists of which the same entries are not over by the first cycle have the same verdict. So a pruned list has that of
-- the whole list.
use Rattle.std.proofs.Common.{◌≡◌, ℕ, zero, suc, ◌+◌, ◌-◌, ◌≤◌, Bool, true, false, cond, not, nat_le, Option, None, option_map, List, [], ◌∷◌, length, All, AllPairs, slice_get, if◌then◌else◌, refl, sym, ap, ◌∙◌, subst, arith}
use Rattle.std.proofs.lemmas.List.Elements.{All-cons, All-filter, All-head, All-nil, All-tail}
use Rattle.std.specs.Option.{option_map_or}
use Rattle.requirement_table.specs.Instance.{IsReleasedIn}
use Rattle.std.proofs.lemmas.List.Kept.{AllPairs-cons}
use Rattle.requirement_table.specs.declared.entries.Placed.{Placed}
use Rattle.bit_sets.specs.Sets.{most_slots}
use Rattle.requirement_table.specs.Table.{GoesBefore, IsInRange, IsWellPlaced, instance_in, is_over, not_over}
use Rattle.requirement_table.proofs.Shared.{instance_in-not_over, releases_in-not_over}
use Rattle.change_protocol.specs.declared.operations.Change.{Change}
use Rattle.change_protocol.specs.Applied.{applied}
use Rattle.change_protocol.specs.Malformed.{Broken, IsWellFormed}
use Rattle.change_protocol.specs.Operations.{HasTypes}
use Rattle.change_protocol.specs.Pruned.{may_go, pruned}
use Rattle.change_protocol.proofs.Shared.{faults-pruned, not_over-applied, not_over-pruned, well_placed-applied}
use Rattle.planner_policies.specs.Plan.{HasNoMiss, IsFirstMiss, IsValid, pending_at}
use Rattle.admission_rules.specs.declared.Rules.{Rules}
use Rattle.admission.specs.declared.verdict.Verdict.{Verdict}
use Rattle.admission.specs.declared.verdict.Verdict.TheVariants.{Malformed, Passed, Miss, Horizon, Accepted}
use Rattle.admission.specs.Recurrence.{AllRelease, AreAlike, IsCommonPeriod, IsLeastCommonPeriod, IsRecurrence, bound_of}
use Rattle.admission.specs.Safe.{IsSafeWithin}
use Rattle.admission.specs.Verdict.{IsInTime, IsTakenWhereDue, IsVerdict, IsVerdictOnPlan, bounds_by, masks_of, plan_from, ranking_by, trail_of}
use Rattle.admission.proofs.Cycles.{IsLike, same-masks, same-missed, same-no_miss, same-pending}
use Rattle.admission.proofs.Left.{bound-kept, common-left, common-whole}
use Rattle.admission.proofs.Reduced.{like-instances}

-- both lists are well placed, and the same entries of them are not over
pub record HaveSameLeft (from : ℕ) (one other : List Placed) : Type 0 where
  pub first : IsWellPlaced one
  pub second : IsWellPlaced other
  pub left : not_over from one ≡ not_over from other

turned : (from : ℕ) (one other : List Placed) → HaveSameLeft from one other → HaveSameLeft from other one
turned from one other same = record { first = same.second; second = same.first; left = sym same.left }

module _ (rules : Rules) (from pending : ℕ) (one other : List Placed) (same : HaveSameLeft from one other) where
  like : (n : ℕ) → IsLike rules.policy one other (from + n) (from + n)
  like n =
      like-instances rules.policy one other (from + n)
      (λ slot.
      sym (instance_in-not_over from one slot (from + n) (omega arith))
      ∙ ap (λ (l : List Placed). instance_in l slot (from + n)) same.left
      ∙ instance_in-not_over from other slot (from + n) (omega arith))
      (λ slot. grind (arith, releases_in-not_over))

  pendings : (n : ℕ) → pending_at (plan_from rules one from pending) n ≡ pending_at (plan_from rules other from pending) n
  pendings n = same-pending (ranking_by rules one) other rules.window from pending n (λ m below. like m)

  bounds : bound_of from one ≡ bound_of from other
  bounds = sym (bound-kept from from one (omega arith)) ∙ ap (bound_of from) same.left ∙ bound-kept from from other (omega arith)

  common : (multiple : ℕ) → IsCommonPeriod one multiple → IsCommonPeriod other multiple
  common multiple is = common-whole from multiple other (subst (λ (l : List Placed). IsCommonPeriod l multiple) same.left (common-left from multiple one is))

  states : (period a b : ℕ) → AreAlike (plan_from rules one from pending) period a b → AreAlike (plan_from rules other from pending) period a b
  states period a b is = grind (arith, bounds, pendings)

  no_miss : (n : ℕ) → HasNoMiss (plan_from rules one from pending) n → HasNoMiss (plan_from rules other from pending) n
  no_miss n none = same-no_miss (ranking_by rules one) other rules.window from pending n (λ m below. like m) none

  first_miss : (slot release cycle : ℕ) → IsFirstMiss (plan_from rules one from pending) slot release cycle → IsFirstMiss (plan_from rules other from pending) slot release cycle
  first_miss slot release cycle is =
      let miss = is.miss in
      let known = miss.known in
      let missed = same-missed (ranking_by rules one) other rules.window from pending is.number (λ m below. like m) in
      record {
        number = is.number;
        at = is.at;
        none_before = no_miss is.number is.none_before;
        miss = record {
          known = known;
          missed = sym (missed slot known) ∙ miss.missed;
          least = λ second less. sym (missed second (omega arith)) ∙ miss.least second less;
          instance = miss.instance;
          found =
              sym (instance_in-not_over from other slot (from + is.number) (omega arith))
              ∙ ap (λ (l : List Placed). instance_in l slot (from + is.number)) (sym same.left)
              ∙ instance_in-not_over from one slot (from + is.number) (omega arith)
              ∙ miss.found;
          released = miss.released;
        };
      }

  pub trail-same : (verdict : Verdict) → trail_of (plan_from rules one from pending) verdict ≡ trail_of (plan_from rules other from pending) verdict
  trail-same (Malformed op why) = refl
  trail-same (Passed start next) = refl
  trail-same (Miss slot release cycle) = same-masks (ranking_by rules one) other rules.window from pending (cycle + 1 - from) (λ m below. like m)
  trail-same (Horizon first walked) = refl
  trail-same (Accepted first length) = refl

least_common : (from multiple : ℕ) (one other : List Placed) → HaveSameLeft from one other → IsLeastCommonPeriod one multiple → IsLeastCommonPeriod other multiple
least_common from multiple one other same is = record {
  common = common-whole from multiple other (subst (λ (l : List Placed). IsCommonPeriod l multiple) same.left (common-left from multiple one is.common));
  least = λ m also.
      is.least m
      (common-whole from m one (subst (λ (l : List Placed). IsCommonPeriod l m) (sym same.left) (common-left from m other also)));
}

recurs : (rules : Rules) (from pending first length : ℕ) (one other : List Placed) → HaveSameLeft from one other
    → IsRecurrence (plan_from rules one from pending) first length → IsRecurrence (plan_from rules other from pending) first length
recurs rules from pending first length one other same is = record {
  period = is.period;
  least_common = least_common from is.period one other same is.least_common;
  number = is.number;
  at = is.at;
  some_cycles = is.some_cycles;
  alike = states rules from pending one other same is.period is.number (is.number + length) is.alike;
  least = λ a b before alike. is.least a b before (states rules from pending other one (turned from one other same) is.period a b alike);
}

pub verdict-same : (rules : Rules) (from pending : ℕ) (one other : List Placed) (verdict : Verdict) → HaveSameLeft from one other
    → IsVerdictOnPlan rules.horizon (plan_from rules one from pending) verdict → IsVerdictOnPlan rules.horizon (plan_from rules other from pending) verdict
verdict-same rules from pending one other (Malformed op why) same is = is
verdict-same rules from pending one other (Passed start next) same is = is
verdict-same rules from pending one other (Miss slot release cycle) same is = (first_miss rules from pending one other same slot release cycle is.0, is.1)
verdict-same rules from pending one other (Horizon first walked) same is = (
  no_miss rules from pending one other same rules.horizon is.0,
  λ period a b least before alike.
      is.1 period a b (least_common from period other one (turned from one other same) least) before
      (states rules from pending other one (turned from one other same) period a b alike),
  is.2,
  is.3,
)
verdict-same rules from pending one other (Accepted first length) same is = grind (arith, no_miss, recurs)

ends-over : (end : Option ℕ) (deadline from : ℕ) → option_map_or (λ free. nat_le free from) (option_map (λ e. e + deadline - 1) end) false ≡ true
    → end ≡ None → ⊥
ends-over end deadline from over none = grind arith

live-step : (from c : ℕ) (p : Placed) (kept placed : List Placed) (o : Bool) → is_over from p ≡ o
    → All (λ q. q.end ≡ None → (k : ℕ) × IsReleasedIn q k c) (cond (not o) (p ∷ kept) kept)
    → (All (λ q. q.end ≡ None → (k : ℕ) × IsReleasedIn q k c) kept → AllRelease placed c) → AllRelease (p ∷ placed) c
live-step from c p kept placed true over all rest =
    All-cons (λ q. q.end ≡ None → (k : ℕ) × IsReleasedIn q k c) p placed (λ live. absurd (ends-over p.end p.entry.deadline from over live)) (rest all)
live-step from c p kept placed false over all rest =
    All-cons (λ q. q.end ≡ None → (k : ℕ) × IsReleasedIn q k c) p placed
    (All-head (λ q. q.end ≡ None → (k : ℕ) × IsReleasedIn q k c) p kept all) (rest (All-tail (λ q. q.end ≡ None → (k : ℕ) × IsReleasedIn q k c) p kept all))

-- each live entry of one list releases an instance where each of the other does

live-all : (from c : ℕ) (placed : List Placed) → All (λ p. p.end ≡ None → (k : ℕ) × IsReleasedIn p k c) (not_over from placed) → AllRelease placed c
live-all from c [] all = All-nil (λ p. p.end ≡ None → (k : ℕ) × IsReleasedIn p k c)
live-all from c (p ∷ placed) all = live-step from c p (not_over from placed) placed (is_over from p) refl all (live-all from c placed)

pub releases-same : (from c : ℕ) (one other : List Placed) → HaveSameLeft from one other → AllRelease one c → AllRelease other c
releases-same from c one other same all =
    live-all from c other
    (subst (λ (l : List Placed). All (λ p. p.end ≡ None → (k : ℕ) × IsReleasedIn p k c) l) same.left
    (All-filter (λ p. not (is_over from p)) (λ p. p.end ≡ None → (k : ℕ) × IsReleasedIn p k c) one all))

-- so the one list is safe where the other is

pub valid-same : (from pending : ℕ) (one other : List Placed) → HaveSameLeft from one other → IsValid one from pending → IsValid other from pending
valid-same from pending one other same held slot is =
    let here = held slot is in
    record {
      instance = here.instance;
      found =
          sym (instance_in-not_over from other slot from (omega arith))
          ∙ ap (λ (l : List Placed). instance_in l slot from) (sym same.left)
          ∙ instance_in-not_over from one slot from (omega arith)
          ∙ here.found;
      before = here.before;
    }

pub within-same : (rules : Rules) (from pending : ℕ) (one other : List Placed) → HaveSameLeft from one other
    → IsSafeWithin rules one from pending → IsSafeWithin rules other from pending
within-same rules from pending one other same is =
    let safe = is.safe in
    let again = is.repeats in
    record {
      in_range = is.in_range;
      near = is.near;
      safe = record {
        well_placed = same.second;
        held = valid-same from pending one other same safe.held;
        in_time = λ m slot known. no_miss rules from pending one other same (m + 1) (λ k s below. safe.in_time k s) m slot (omega arith) known;
      };
      repeats = record {
        period = again.period;
        least_common = least_common from again.period one other same again.least_common;
        one = again.one;
        other = again.other;
        before = again.before;
        within = again.within;
        alike = states rules from pending one other same again.period again.one again.other again.alike;
      };
    }

-- so what is due of the one list is due of the other
pub due-same : (rules : Rules) (from pending : ℕ) (one other : List Placed) (verdict : Verdict) → HaveSameLeft from one other
    → IsTakenWhereDue rules (plan_from rules one from pending) verdict → IsTakenWhereDue rules (plan_from rules other from pending) verdict
due-same rules from pending one other verdict same due never c period settled releases least near =
    let back = turned from one other same in
    due (λ m slot known. no_miss rules from pending other one back (m + 1) (λ k s below. never k s) m slot (omega arith) known) c period
    (subst (λ (n : ℕ). n ≤ c) (sym (bounds rules from pending one other same)) settled)
    (releases-same from c other one back releases) (least_common from period other one back least) near

-- a pruned list is well placed

all-step : (P : Placed → Type 0) (p : Placed) (kept : List Placed) (b : Bool) → P p → All P kept → All P (if b then kept else p ∷ kept)
all-step P p kept b one rest = grind arith

all-pruned : (P : Placed → Type 0) (c : ℕ) (placed : List Placed) → All P placed → All P (pruned c placed)
all-pruned P c [] all = all
all-pruned P c (p ∷ placed) all = all-step P p (pruned c placed) (may_go c p placed) (All-head P p placed all) (all-pruned P c placed (All-tail P p placed all))

pairs-head : (p : Placed) (placed : List Placed) → AllPairs GoesBefore (p ∷ placed) → All (GoesBefore p) placed
pairs-head p placed pairs k d within = pairs zero (suc k) d (omega arith) (omega arith)

pairs-tail : (p : Placed) (placed : List Placed) → AllPairs GoesBefore (p ∷ placed) → AllPairs GoesBefore placed
pairs-tail p placed pairs i j d before within = pairs (suc i) (suc j) d (omega arith) (omega arith)

pairs-step : (p : Placed) (kept : List Placed) (b : Bool) → All (GoesBefore p) kept → AllPairs GoesBefore kept → AllPairs GoesBefore (if b then kept else p ∷ kept)
pairs-step p kept true one rest = rest
pairs-step p kept false one rest = AllPairs-cons GoesBefore p kept one rest

pairs-pruned : (c : ℕ) (placed : List Placed) → AllPairs GoesBefore placed → AllPairs GoesBefore (pruned c placed)
pairs-pruned c [] pairs = pairs
pairs-pruned c (p ∷ placed) pairs =
    pairs-step p (pruned c placed) (may_go c p placed) (all-pruned (GoesBefore p) c placed (pairs-head p placed pairs)) (pairs-pruned c placed (pairs-tail p placed pairs))

pub well_placed-pruned : (c : ℕ) (placed : List Placed) → IsWellPlaced placed → IsWellPlaced (pruned c placed)
well_placed-pruned c placed well = record {
  in_range = all-pruned IsInRange c placed well.in_range;
  in_order = pairs-pruned c placed well.in_order;
}

pub same-pruned : (c from : ℕ) (placed : List Placed) → c ≤ from → IsWellPlaced placed → HaveSameLeft from placed (pruned c placed)
same-pruned c from placed before well = record {
  first = well;
  second = well_placed-pruned c placed well;
  left = sym (not_over-pruned c from placed before);
}

pub masks-kept : (rules : Rules) (from pending n : ℕ) (one other : List Placed) → HaveSameLeft from one other
    → masks_of (plan_from rules other from pending) n ≡ masks_of (plan_from rules one from pending) n
masks-kept rules from pending n one other same =
    sym (same-masks (ranking_by rules one) other rules.window from pending n (λ m below. like rules from pending one other same m))

pub pending-kept : (rules : Rules) (from pending n : ℕ) (one other : List Placed) → HaveSameLeft from one other
    → pending_at (plan_from rules other from pending) n ≡ pending_at (plan_from rules one from pending) n
pending-kept rules from pending n one other same = sym (pendings rules from pending one other same n)

module _ (rules : Rules) (c from pending next : ℕ) (placed : List Placed) (change : Change) (before : c ≤ from) (well : IsWellPlaced placed)
    (room : rules.slots ≤ most_slots) (types : All HasTypes change.ops) where
  fewer : IsWellPlaced (pruned c placed)
  fewer = well_placed-pruned c placed well

  formed-same : IsWellFormed (pruned c placed) (bounds_by rules) change → IsWellFormed placed (bounds_by rules) change
  formed-same formed = sym (faults-pruned c placed well (bounds_by rules) change) ∙ formed

  made : (list : List Placed) → IsWellPlaced list → IsWellFormed list (bounds_by rules) change → IsWellPlaced (applied list change)
  made list sound formed = grind (arith, well_placed-applied)

  in_time : IsInTime rules (pruned c placed) next change → IsInTime rules placed next change
  in_time is = record { well_formed = formed-same is.well_formed; ahead = is.ahead }

  same-lists : IsWellFormed (pruned c placed) (bounds_by rules) change → HaveSameLeft from (applied (pruned c placed) change) (applied placed change)
  same-lists formed = record {
    first = made (pruned c placed) fewer formed;
    second = made placed well (formed-same formed);
    left = not_over-applied c from placed change before;
  }

  moved : (verdict : Verdict) → IsWellFormed (pruned c placed) (bounds_by rules) change
      → IsVerdictOnPlan rules.horizon (plan_from rules (applied (pruned c placed) change) from pending) verdict
      → IsVerdictOnPlan rules.horizon (plan_from rules (applied placed change) from pending) verdict
  moved verdict formed is = verdict-same rules from pending (applied (pruned c placed) change) (applied placed change) verdict (same-lists formed) is

  pub verdict-pruned : (verdict : Verdict) → IsVerdict rules (pruned c placed) pending from next change verdict → IsVerdict rules placed pending from next change verdict
  verdict-pruned (Malformed op why) is = ap (λ (l : List Broken). slice_get l 0) (sym (faults-pruned c placed well (bounds_by rules) change)) ∙ is
  verdict-pruned (Passed start opened) is = (formed-same is.0, is.1, is.2, is.3)
  verdict-pruned (Miss slot release cycle) is = (in_time is.0, moved (Miss slot release cycle) is.0.well_formed is.1)
  verdict-pruned (Horizon first walked) is = (in_time is.0, moved (Horizon first walked) is.0.well_formed is.1)
  verdict-pruned (Accepted first length) is = (in_time is.0, moved (Accepted first length) is.0.well_formed is.1)

  -- and the other way round
  formed-fewer : IsWellFormed placed (bounds_by rules) change → IsWellFormed (pruned c placed) (bounds_by rules) change
  formed-fewer formed = faults-pruned c placed well (bounds_by rules) change ∙ formed

  in_time-fewer : IsInTime rules placed next change → IsInTime rules (pruned c placed) next change
  in_time-fewer is = record { well_formed = formed-fewer is.well_formed; ahead = is.ahead }

  moved-fewer : (verdict : Verdict) → IsWellFormed placed (bounds_by rules) change
      → IsVerdictOnPlan rules.horizon (plan_from rules (applied placed change) from pending) verdict
      → IsVerdictOnPlan rules.horizon (plan_from rules (applied (pruned c placed) change) from pending) verdict
  moved-fewer verdict formed is = grind (arith, verdict-same, turned, same-lists, formed-fewer)

  pub verdict-fewer : (verdict : Verdict) → IsVerdict rules placed pending from next change verdict → IsVerdict rules (pruned c placed) pending from next change verdict
  verdict-fewer (Malformed op why) is = ap (λ (l : List Broken). slice_get l 0) (faults-pruned c placed well (bounds_by rules) change) ∙ is
  verdict-fewer (Passed start opened) is = (formed-fewer is.0, is.1, is.2, is.3)
  verdict-fewer (Miss slot release cycle) is = (in_time-fewer is.0, moved-fewer (Miss slot release cycle) is.0.well_formed is.1)
  verdict-fewer (Horizon first walked) is = (in_time-fewer is.0, moved-fewer (Horizon first walked) is.0.well_formed is.1)
  verdict-fewer (Accepted first length) is = (in_time-fewer is.0, moved-fewer (Accepted first length) is.0.well_formed is.1)

  trails : (verdict : Verdict) → IsWellFormed (pruned c placed) (bounds_by rules) change
      → trail_of (plan_from rules (applied (pruned c placed) change) from pending) verdict ≡ trail_of (plan_from rules (applied placed change) from pending) verdict
  trails verdict formed = trail-same rules from pending (applied (pruned c placed) change) (applied placed change) (same-lists formed) verdict

  pub trail-pruned : (verdict : Verdict) → IsVerdict rules (pruned c placed) pending from next change verdict
      → trail_of (plan_from rules (applied (pruned c placed) change) from pending) verdict ≡ trail_of (plan_from rules (applied placed change) from pending) verdict
  trail-pruned verdict is = grind (arith, trails)

  abbrev IsDueOf : List Placed → Verdict → Type 0
  IsDueOf list verdict = IsInTime rules list next change → IsTakenWhereDue rules (plan_from rules (applied list change) from pending) verdict

  pub due-pruned : (verdict : Verdict) → IsDueOf (pruned c placed) verdict → IsDueOf placed verdict
  due-pruned verdict due is =
      let formed : IsWellFormed (pruned c placed) (bounds_by rules) change = formed-fewer is.well_formed in
      due-same rules from pending (applied (pruned c placed) change) (applied placed change) verdict (same-lists formed) (due (in_time-fewer is))
