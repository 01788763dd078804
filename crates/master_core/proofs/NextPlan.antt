-- The plan of the next cycle of a core, made from the entries that are not over.
use Rattle.std.proofs.Common.{◌≡◌, ℕ, ◌+◌, ◌^◌, ◌<◌, ◌≤◌, true, not, Option, Some, IsSome, All, refl, sym, ap, ◌∙◌, subst, arith}
use Rattle.std.proofs.lemmas.List.Elements.{All-filter}
use Rattle.bit_sets.specs.Sets.{has_bit, set_of, most_slots}
use Rattle.requirement_table.specs.Table.{IsWellPlaced, instance_in, is_over, not_over, width_in}
use Rattle.requirement_table.specs.Instance.{Instance}
use Rattle.requirement_table.proofs.Shared.{instance_in-not_over, not_over-well_placed, releases_in-not_over}
use Rattle.bit_sets.proofs.Shared.{set_of-same, sum_where-same, sum_where-costs, set_of-has}
use Rattle.planner_policies.specs.declared.state.PlanState.{PlanState}
use Rattle.planner_policies.specs.Plan.{HasNoMissIn, IsValid, Ranking, left_after, mask_at, pending_at, pending_before, planned_in, planning_of}
use Rattle.planner_policies.proofs.Shared.{AreAlike, alike-from_same, before-first, before-next, left-alike, missed-alike, planned-alike, planned-fits, planned-sendable}
use Rattle.admission.specs.Verdict.{ranking_by}
use Rattle.master_core.specs.Cores.{CoreView, IsCore, IsCoreOrder, IsCoreUpcoming, IsRanked, onward}
use Rattle.master_core.proofs.KnownSlots.{HasSlot, instance-slot, set-below}

some-is : (o : Option Instance) → IsSome o → (i : Instance) × (o ≡ Some i)
some-is o some = grind arith

module _ (core : CoreView) (since : ℕ) (ranked : Ranking) (is : IsCore core) (ranks : IsRanked core since ranked) where
  abbrev not_yet_over : Ranking
  not_yet_over = ranking_by core.rules (not_over since core.placed)

  here : core.cycle + 0 ≡ core.cycle
  here = omega arith

  alike : AreAlike core.rules.policy core.placed (not_over since core.placed) (core.cycle + 0) core.cycle
  alike = grind (arith, alike-from_same, here, instance_in-not_over, releases_in-not_over)

  agree : (slot : ℕ) → slot < most_slots → has_bit core.pending slot ≡ pending_before (onward core) 0 slot
  agree slot known = sym (before-first (onward core) slot)

  pub ranked-valid : IsValid ranked.placed core.cycle core.pending
  ranked-valid = grind (arith, instance_in-not_over)

  pub ranked-in_time : HasNoMissIn (planning_of ranked core.rules.window core.cycle core.pending) core.cycle (has_bit core.pending)
  ranked-in_time =
      subst (λ (r : Ranking). HasNoMissIn (planning_of r core.rules.window core.cycle core.pending) core.cycle (has_bit core.pending)) (sym ranks.left)
      (λ slot known.
      missed-alike (onward core) (not_over since core.placed) core.cycle core.pending (core.cycle + 0) core.cycle (pending_before (onward core) 0)
      (has_bit core.pending) alike agree slot known
      ∙ is.safe.safe.in_time 0 slot known)

  planned-here : (slot : ℕ) → slot < most_slots
      → planned_in (planning_of not_yet_over core.rules.window core.cycle core.pending) core.cycle (has_bit core.pending) slot
      ≡ planned_in (onward core) (core.cycle + 0) (pending_before (onward core) 0) slot
  planned-here slot known =
      planned-alike (onward core) (not_over since core.placed) core.cycle core.pending (core.cycle + 0) core.cycle (pending_before (onward core) 0)
      (has_bit core.pending) alike agree slot known

  -- what is planned is the plan of all entries
  pub ranked-mask : set_of most_slots (planned_in (planning_of ranked core.rules.window core.cycle core.pending) core.cycle (has_bit core.pending))
      ≡ mask_at (onward core) 0
  ranked-mask = grind (arith, set_of-same, planned-here)

  pub ranked-left : set_of most_slots (left_after (planning_of ranked core.rules.window core.cycle core.pending) core.cycle (has_bit core.pending))
      ≡ pending_at (onward core) 1
  ranked-left =
      subst
      (λ (r : Ranking). set_of most_slots (left_after (planning_of r core.rules.window core.cycle core.pending) core.cycle (has_bit core.pending)) ≡ pending_at (onward core) 1)
      (sym ranks.left)
      (set_of-same most_slots (left_after (planning_of not_yet_over core.rules.window core.cycle core.pending) core.cycle (has_bit core.pending))
      (pending_before (onward core) 1)
      (λ slot known.
      left-alike (onward core) (not_over since core.placed) core.cycle core.pending (core.cycle + 0) core.cycle (pending_before (onward core) 0)
      (has_bit core.pending) alike agree slot known
      ∙ sym (before-next (onward core) 0 slot)))

  -- the length of the window, with the instances of all entries
  pub ranked-width : width_in ranked.placed core.cycle (planned_in (planning_of ranked core.rules.window core.cycle core.pending) core.cycle (has_bit core.pending))
      ≡ width_in core.placed core.cycle
      (has_bit (set_of most_slots (planned_in (planning_of ranked core.rules.window core.cycle core.pending) core.cycle (has_bit core.pending))))
  ranked-width = grind (arith, sum_where-costs, instance_in-not_over, sum_where-same, set_of-has)

  same-instance : (slot : ℕ) → instance_in ranked.placed slot core.cycle ≡ instance_in core.placed slot core.cycle
  same-instance slot = grind (arith, instance_in-not_over)

  ranked-well_placed : IsWellPlaced ranked.placed
  ranked-well_placed = subst (λ (r : Ranking). IsWellPlaced r.placed) (sym ranks.left) (not_over-well_placed since core.placed is.safe.safe.well_placed)

  ranked-slots : All (HasSlot core.rules.slots) ranked.placed
  ranked-slots =
      subst (λ (r : Ranking). All (HasSlot core.rules.slots) r.placed) (sym ranks.left)
      (All-filter (λ p. not (is_over since p)) (HasSlot core.rules.slots) core.placed is.slots)

  planned-some : (slot : ℕ) → planned_in (planning_of ranked core.rules.window core.cycle core.pending) core.cycle (has_bit core.pending) slot ≡ true
      → IsSome (instance_in ranked.placed slot core.cycle)
  planned-some slot planned =
      planned-sendable (planning_of ranked core.rules.window core.cycle core.pending) core.cycle core.pending slot ranked-well_placed ranked-valid planned

  -- what is planned has slots of the rules
  planned-below : set_of most_slots (planned_in (planning_of ranked core.rules.window core.cycle core.pending) core.cycle (has_bit core.pending)) < 2 ^ core.rules.slots
  planned-below =
      set-below core.rules.slots (planned_in (planning_of ranked core.rules.window core.cycle core.pending) core.cycle (has_bit core.pending)) is.safe.in_range.few_slots
      (λ slot known planned. instance-slot core.rules.slots slot core.cycle ranked.placed ranked-slots (planned-some slot planned))

  flagged-planned : (mask slot : ℕ)
      → mask ≡ set_of most_slots (planned_in (planning_of ranked core.rules.window core.cycle core.pending) core.cycle (has_bit core.pending)) → slot < most_slots
      → has_bit mask slot ≡ true → planned_in (planning_of ranked core.rules.window core.cycle core.pending) core.cycle (has_bit core.pending) slot ≡ true
  flagged-planned mask slot by known flagged = grind (arith, set_of-has)

  -- the order of the next cycle
  pub order-is : (mask width : ℕ)
      → mask ≡ set_of most_slots (planned_in (planning_of ranked core.rules.window core.cycle core.pending) core.cycle (has_bit core.pending))
      → width ≡ width_in ranked.placed core.cycle (planned_in (planning_of ranked core.rules.window core.cycle core.pending) core.cycle (has_bit core.pending))
      → IsCoreOrder core (record { cycle = core.cycle; mask = mask; l = width; learned = core.learned })
  order-is mask width by wide = record {
    cycle = refl;
    mask = by ∙ ranked-mask;
    window = wide ∙ ranked-width ∙ ap (λ (q : ℕ). width_in core.placed core.cycle (has_bit q)) (sym by);
    learned = refl;
    fits =
        subst (λ (w : ℕ). w ≤ core.rules.window) (sym wide)
        (planned-fits (planning_of ranked core.rules.window core.cycle core.pending) core.cycle (has_bit core.pending));
    slots = subst (λ (q : ℕ). q < 2 ^ core.rules.slots) (sym by) planned-below;
    present = λ slot known flagged.
        let some = planned-some slot (flagged-planned mask slot by known flagged) in
        let found = some-is (instance_in ranked.placed slot core.cycle) some in
        (found.0, sym (same-instance slot) ∙ found.1);
  }

  pub upcoming-is : (mask width : ℕ) (next : PlanState)
      → mask ≡ set_of most_slots (planned_in (planning_of ranked core.rules.window core.cycle core.pending) core.cycle (has_bit core.pending))
      → width ≡ width_in ranked.placed core.cycle (planned_in (planning_of ranked core.rules.window core.cycle core.pending) core.cycle (has_bit core.pending))
      → next.cycle ≡ core.cycle + 1
      → next.pending ≡ set_of most_slots (left_after (planning_of ranked core.rules.window core.cycle core.pending) core.cycle (has_bit core.pending))
      → IsCoreUpcoming core (record { mask = mask; l = width; next = next })
  upcoming-is mask width next by wide later left = record { order = order-is mask width by wide; next = later; pending = left ∙ ranked-left }
