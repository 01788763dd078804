-- Where each live entry releases an instance and all entries have settled, nothing is pending.
use Rattle.std.proofs.Common.{◌≡◌, ℕ, ◌+◌, ◌-◌, ◌*◌, ◌/◌, ◌%◌, ◌<◌, ◌≤◌, true, false, Option, Some, None, IfSome, List, All, Contains, get_or, refl, sym, ap, ◌∙◌, subst, arith, ⊎_elim}
use Rattle.std.specs.Option.{option_map, option_map_or}
use Rattle.std.proofs.Math.Nat.{add-mod_right, mul-le-mul_right}
use Rattle.std.proofs.lemmas.Bool.{cases_Bool, cases_lt}
use Rattle.std.proofs.lemmas.List.Elements.{All-contains}
use Rattle.bit_sets.specs.Sets.{most_slots}
use Rattle.bit_sets.proofs.Shared.{set_of-none}
use Rattle.requirement_table.specs.declared.entries.Placed.{Placed}
use Rattle.requirement_table.specs.Instance.{Instance, IsReleasedIn, MaySend, release_of}
use Rattle.requirement_table.specs.Table.{IsHeldFrom, IsInRange, IsWellPlaced, instance_in}
use Rattle.requirement_table.proofs.Shared.{instance_in-sound}
use Rattle.planner_policies.specs.Loop.{settled_at}
use Rattle.planner_policies.specs.Plan.{IsValid, NeverMisses, Planning, pending_at, pending_before}
use Rattle.planner_policies.proofs.Shared.{valid-along}
use Rattle.admission.specs.Recurrence.{AllRelease, AreAlike, HasNoRecurrence, IsCommonPeriod, IsLeastCommonPeriod, bound_of}
use Rattle.admission.proofs.Cycles.{agree-set}
use Rattle.admission.proofs.Divided.{parts-of}
use Rattle.admission.proofs.Reduced.{bound-above, settled-by}

-- what was released before a release of the same entry may not be sent with it any more
apart : (first period deadline k m c : ℕ) → deadline ≤ period → first + k * period ≡ c → first + m * period < c → c < first + m * period + deadline → ⊥
apart first period deadline k m c within here before in_time =
    ⊎_elim
    (λ (less : m < k).
    let order : (m + 1) * period ≤ k * period = mul-le-mul_right period (omega arith) in
    let next : (m + 1) * period ≡ m * period + period = grind arith in
    omega arith)
    (λ (more : k ≤ m).
    let order : k * period ≤ m * period = mul-le-mul_right period more in
    omega arith)
    (cases_lt m k)

over-apart : (end : Option ℕ) (e origin deadline release c : ℕ) → end ≡ Some e → option_map_or (λ free. free) (option_map (λ e. e + deadline - 1) end) origin ≤ c
    → IfSome end (λ e. release < e) → c < release + deadline → ⊥
over-apart end e origin deadline release c is settled exists in_time = grind arith

of-some : (o : Option Instance) (P : Instance → Type 0) (i : Instance) → o ≡ Some i → IfSome o P → P i
of-some o P i is holds = grind arith

module _ (placed : List Placed) (c : ℕ) (well : IsWellPlaced placed) (settled : All (λ p. settled_at p ≤ c) placed) (all : AllRelease placed c) where
  none-held : (p : Placed) (m : ℕ) → Contains placed p → MaySend p m c → release_of p m < c → ⊥
  none-held p m stands sends before = by-end p.end refl where
    by-end : (end : Option ℕ) → p.end ≡ end → ⊥
    by-end None live =
        let range = All-contains IsInRange placed p well.in_range stands in
        let releases = All-contains (λ q. q.end ≡ None → (k : ℕ) × IsReleasedIn q k c) placed p all stands live in
        apart (p.origin + p.entry.phase) p.entry.period p.entry.deadline releases.0 m c range.entry.deadline releases.1.release before sends.in_time
    by-end (Some e) ended =
        over-apart p.end e (p.origin + p.entry.phase) p.entry.deadline (release_of p m) c ended
        (All-contains (λ q. settled_at q ≤ c) placed p settled stands) sends.exists sends.in_time

  pub none-pending : (slot : ℕ) → IsHeldFrom placed c slot → ⊥
  none-pending slot held =
      let i = held.instance in
      let sound = of-some (instance_in placed slot c) (λ x. Contains placed x.placed × (x.placed.entry.slot ≡ slot) × MaySend x.placed x.number c) i held.found
      (instance_in-sound placed slot c) in
      none-held i.placed i.number sound.0 sound.2 held.before

pub nothing-pending : (plan : Planning) (n : ℕ) → IsWellPlaced plan.placed → IsValid plan.placed (plan.from + n) (pending_at plan n)
    → bound_of plan.from plan.placed ≤ plan.from + n → AllRelease plan.placed (plan.from + n) → pending_at plan n ≡ 0
nothing-pending plan n well valid settled all =
    set_of-none most_slots (pending_before plan n)
    (λ slot known.
    ⊎_elim
    (λ (is : pending_before plan n slot ≡ true).
    absurd
    (none-pending plan.placed (plan.from + n) well
    (λ i d within. let by = settled-by plan.from plan.placed i d within in omega arith) all slot
    (valid slot (agree-set (pending_before plan n) slot known ∙ is))))
    (λ (not : pending_before plan n slot ≡ false). not)
    (cases_Bool (pending_before plan n slot)))

-- each live entry releases again after a common period
release-again : (first period k c more : ℕ) → more % period ≡ 0 → first + k * period ≡ c → first + (k + more / period) * period ≡ c + more
release-again first period k c more divided here = grind (arith, parts-of)

pub all-again : (placed : List Placed) (c more : ℕ) → IsCommonPeriod placed more → AllRelease placed c → AllRelease placed (c + more)
all-again placed c more common all i d within live =
    let releases = all i d within live in
    let p : Placed = get_or placed i d in (
      releases.0 + more / p.entry.period,
      record {
        release = release-again (p.origin + p.entry.phase) p.entry.period releases.0 c more (common.divided i d within live) releases.1.release;
        exists = live-exists p.end (c + more) live;
      },
    ) where
      live-exists : (end : Option ℕ) (release : ℕ) → end ≡ None → IfSome end (λ e. release < e)
      live-exists None release is = tt
      live-exists (Some e) release is = absurd (cc)

-- a planning without a miss that has such a cycle has a recurrence
pub recurs : (plan : Planning) (horizon : ℕ) → IsWellPlaced plan.placed → IsValid plan.placed plan.from plan.pending → NeverMisses plan
    → (c period : ℕ) → bound_of plan.from plan.placed ≤ c → AllRelease plan.placed c → IsLeastCommonPeriod plan.placed period
    → c + period ≤ plan.from + horizon → HasNoRecurrence plan horizon → ⊥
recurs plan horizon well valid never c period settled all least within none =
    let above = bound-above plan.from plan.placed in
    let one : ℕ = c - plan.from in
    let other : ℕ = one + period in
    let at_one : plan.from + one ≡ c = omega arith in
    let at_other : plan.from + other ≡ c + period = omega arith in
    let first : pending_at plan one ≡ 0 =
    nothing-pending plan one well (valid-along plan one well valid (λ m slot below. never m slot)) (omega arith)
    (subst (AllRelease plan.placed) (sym at_one) all) in
    let second : pending_at plan other ≡ 0 =
    nothing-pending plan other well (valid-along plan other well valid (λ m slot below. never m slot)) (omega arith)
    (subst (AllRelease plan.placed) (sym at_other) (all-again plan.placed c period least.common all)) in
    let some = least.common.positive in
    let alike : AreAlike plan period one other = record {
      one_settled = omega arith;
      other_settled = omega arith;
      place = ap (λ n. n % period) at_one ∙ sym (add-mod_right c period) ∙ sym (ap (λ n. n % period) at_other);
      pending = first ∙ sym second;
    } in
    let past : horizon < other = none period one other least (omega arith) alike in
    omega arith
