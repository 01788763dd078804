-- Cores as the states after histories.
use Rattle.std.proofs.Common.{◌≡◌, ℕ, ◌+◌, ◌-◌, ◌≤◌, Bool, true, false, cond, if◌then◌else◌, List, [], ◌∷◌, ◌++◌, Option, Some, None, All, is_some, option_map, refl, sym, ap, ◌∙◌, subst, zero-add, add-zero, arith}
use Rattle.std.proofs.lemmas.Grind.{common_steps}
use Rattle.requirement_table.specs.declared.entries.Order.{Order}
use Rattle.requirement_table.specs.declared.entries.Placed.{Placed}
use Rattle.bit_sets.specs.Sets.{has_bit, most_slots}
use Rattle.requirement_table.specs.Table.{IsWellPlaced, instance_in, not_over, width_in}
use Rattle.bit_sets.proofs.Shared.{set_of-has_bit, set_of-same, sum_where-costs}
use Rattle.change_protocol.specs.declared.operations.Change.{Change}
use Rattle.change_protocol.specs.Applied.{applied}
use Rattle.change_protocol.specs.Operations.{HasTypes}
use Rattle.change_protocol.specs.Pruned.{pruned}
use Rattle.change_protocol.proofs.Shared.{not_over-pruned, pruned-again}
use Rattle.planner_policies.specs.Plan.{Planning, mask_at, pending_at, pending_before, planned_at}
use Rattle.planner_policies.proofs.Shared.{before-first, on-planned}
use Rattle.admission_rules.specs.declared.Rules.{Rules}
use Rattle.admission.specs.declared.verdict.Verdict.{Verdict}
use Rattle.admission.specs.Verdict.{IsVerdict, is_accepted, plan_from, trail_of}
use Rattle.master_core.specs.declared.event.Event.{Event}
use Rattle.master_core.specs.declared.event.Event.TheVariants.{Submit, Look, Open}
use Rattle.master_core.specs.Cores.{CoreView, IsCore, IsCoreOrder, IsCoreUpcoming, IsHeld, IsPruned, IsStateAs, answered_as, kept_by, new_core, onward, opened, with_all}
use Rattle.master_core.specs.History.{IsRightAnswer, accepted_of, is_changed, learned_of, next_of, placed_of, plan_of}
use Rattle.master_core.specs.declared.upcoming.Upcoming.{Upcoming}
use Rattle.master_core.specs.Orders.{IsOrder, IsOrderWith, IsUpcoming, StandsFor, learned_as}
use Rattle.master_core.proofs.Earlier.{same-of_legal}
use Rattle.master_core.proofs.Events.{accepted_of-push, not-counted}
use Rattle.master_core.proofs.Histories.{is_changed-push, legal-push, next_of-push, placed_of-push}
use Rattle.master_core.proofs.Legal.{sound-of_legal}
use Rattle.master_core.proofs.Onward.{later-pending, later_plan, left-instances, left-mask, left-pending}
use Rattle.master_core.proofs.Settling.{since-now}

-- what is kept of the placed entries has the same entries that are not over
pub left-of : (prunes : Bool) (cycle : ℕ) (whole list : List Placed) → IsHeld prunes cycle whole list → not_over cycle list ≡ not_over cycle whole
left-of prunes cycle whole list held = grind (arith, not_over-pruned)

-- an accepted change is applied to both
held-applied : (prunes : Bool) (from cycle : ℕ) (whole list : List Placed) (change : Change) → from ≤ cycle → IsHeld prunes from whole list
    → IsHeld prunes cycle (applied whole change) (kept_by prunes from (applied list change))
held-applied true from cycle whole list change early held = record {
  by = from;
  early = early;
  is = ap (λ (l : List Placed). pruned from (applied l change)) held.is ∙ pruned-again held.by from whole change held.early;
}
held-applied false from cycle whole list change early held = ap (λ (l : List Placed). applied l change) held

-- what is decided of the list that is kept is decided of the whole one

abbrev pub VerdictLaw : Type 0
VerdictLaw = (rules : Rules) (c from pending next : ℕ) (placed : List Placed) (change : Change) (verdict : Verdict) → c ≤ from → IsWellPlaced placed → rules.slots ≤ most_slots
    → All HasTypes change.ops → IsVerdict rules (pruned c placed) pending from next change verdict → IsVerdict rules placed pending from next change verdict

abbrev pub TrailLaw : Type 0
TrailLaw = (rules : Rules) (c from pending next : ℕ) (placed : List Placed) (change : Change) (verdict : Verdict) → c ≤ from → IsWellPlaced placed → rules.slots ≤ most_slots
    → All HasTypes change.ops → IsVerdict rules (pruned c placed) pending from next change verdict
    → trail_of (plan_from rules (applied (pruned c placed) change) from pending) verdict ≡ trail_of (plan_from rules (applied placed change) from pending) verdict

pub verdict-held : VerdictLaw → TrailLaw → (rules : Rules) (whole list : List Placed) → IsWellPlaced whole → rules.slots ≤ most_slots → (change : Change)
    → All HasTypes change.ops → (from pending next : ℕ) (verdict : Verdict) → IsVerdict rules list pending from next change verdict → (prunes : Bool)
    → IsHeld prunes from whole list
    → IsVerdict rules whole pending from next change verdict
    × (trail_of (plan_from rules (applied list change) from pending) verdict ≡ trail_of (plan_from rules (applied whole change) from pending) verdict)
verdict-held verdicts trails rules whole list well room change types from pending next verdict decided prunes held = grind arith

-- a core that was not called yet
pub state-new : (prunes : Bool) (rules : Rules) (forgets : Bool) → IsStateAs prunes [] (new_core rules forgets)
state-new prunes rules forgets = record {
  legal = tt;
  held = nothing-held prunes;
  next = refl;
  waiting =
      set_of-has_bit most_slots 0 (omega arith)
      ∙ sym (set_of-same most_slots (pending_before (plan_of rules []) 0) (has_bit 0) (λ slot known. before-first (plan_of rules []) slot));
  to_learn = refl;
  counted = refl;
}
  where
    nothing-held : (prunes : Bool) → IsHeld prunes 0 [] []
    nothing-held prunes = grind arith

-- a core that kept all placed entries, with these pruned

pub state-pruned : (history : List Event) (core new : CoreView) → IsStateAs false history core → IsPruned core new → IsStateAs true history new
state-pruned history core new of by = grind (arith, option_map)

-- a core with all placed entries in place of those that it kept

some-if : (list : List Placed) (b : Bool) → is_some (if b then Some list else None) ≡ b
some-if list b = grind arith

pub state-all : (history : List Event) (core : CoreView) → IsStateAs true history core → IsStateAs false history (with_all core (placed_of history))
state-all history core of = grind (arith, is_some, some-if)

module _ (prunes : Bool) (history : List Event) (core : CoreView) (is : IsCore core) (of : IsStateAs prunes history core) where
  abbrev whole : List Placed
  whole = placed_of history

  abbrev rules : Rules
  rules = core.rules

  whole-well : IsWellPlaced whole
  whole-well = (sound-of_legal rules history of.legal).well_placed

  left : not_over core.cycle core.placed ≡ not_over core.cycle whole
  left = left-of prunes core.cycle whole core.placed of.held

  later-is : later_plan (plan_of rules whole) core.cycle ≡ plan_from rules whole core.cycle core.pending
  later-is = grind (arith, zero-add)

  -- the plan that goes on
  pub masks-are : (n : ℕ) → mask_at (plan_of rules whole) (core.cycle + n) ≡ mask_at (onward core) n
  masks-are n =
      set_of-same most_slots (planned_at (plan_of rules whole) (core.cycle + n)) (planned_at (later_plan (plan_of rules whole) core.cycle) n)
      (λ slot known. on-planned (plan_of rules whole) core.cycle n slot known)
      ∙ ap (λ (p : Planning). mask_at p n) later-is
      ∙ sym (left-mask rules core.cycle core.pending whole core.placed whole-well is.safe.safe.well_placed left n)

  pub mask-is : mask_at (plan_of rules whole) core.cycle ≡ mask_at (onward core) 0
  mask-is = let at : core.cycle + 0 ≡ core.cycle = omega arith in ap (mask_at (plan_of rules whole)) (sym at) ∙ masks-are 0

  -- and what it leaves
  pending-is : pending_at (plan_of rules whole) (core.cycle + 1) ≡ pending_at (onward core) 1
  pending-is = grind (arith, later-pending, later-is, left-pending, whole-well, left)

  instance-at : (slot at : ℕ) → core.cycle ≤ at → instance_in core.placed slot at ≡ instance_in whole slot at
  instance-at slot at later =
      let there : core.cycle + (at - core.cycle) ≡ at = omega arith in
      grind (arith, left-instances, whole-well, left)

  instance-is : (slot : ℕ) → instance_in core.placed slot core.cycle ≡ instance_in whole slot core.cycle
  instance-is slot = instance-at slot core.cycle (omega arith)

  -- the list that is kept stands for the whole one
  pub stands-next : StandsFor (next_of history) whole core.placed
  stands-next = grind (arith, instance-at)

  width-is : (slots : ℕ → Bool) → width_in core.placed core.cycle slots ≡ width_in whole core.cycle slots
  width-is slots = grind (arith, sum_where-costs, instance-is)

  -- the order of the core is that of the history, but for what the nodes are to learn
  order-with : (order : Order) → IsCoreOrder core order → (list : List Placed) (learned : Option (List Placed)) → learned ≡ learned_as history list
      → IsOrderWith rules history list (record order { learned = learned })
  order-with order by list learned learned_is = grind (arith, mask-is, width-is, instance-is)

  pub state-order : (order : Order) → IsCoreOrder core order → IsOrder rules history (record order { learned = learned_of history })
  state-order order by = order-with order by whole (learned_of history) refl

  -- and it is that of the history for nodes that learn the list that is kept
  pub state-order-with : (order : Order) → IsCoreOrder core order → IsOrderWith rules history core.placed order
  state-order-with order by = order-with order by core.placed order.learned (by.learned ∙ of.to_learn)

  pub state-upcoming : (upcoming : Upcoming) → IsCoreUpcoming core upcoming → IsUpcoming rules history upcoming
  state-upcoming upcoming by = record {
    order =
        subst (λ (n : ℕ). IsOrder rules history (record { cycle = n; mask = upcoming.mask; l = upcoming.l; learned = learned_of history })) of.next
        (state-order (record { cycle = core.cycle; mask = upcoming.mask; l = upcoming.l; learned = core.learned }) by.order);
    next = by.next ∙ ap (λ (n : ℕ). n + 1) of.next;
    pending = by.pending ∙ sym pending-is ∙ ap (λ (n : ℕ). pending_at (plan_of rules whole) (n + 1)) of.next;
  }

  -- what is upcoming after the history is upcoming for the core
  pub core-upcoming : (upcoming : Upcoming) → IsUpcoming rules history upcoming → IsCoreUpcoming core upcoming
  core-upcoming upcoming by = grind (arith, mask-is, width-is, instance-is, pending-is)

  -- A look

  pub state-looked : (caller : ℕ) → IsStateAs prunes (history ++ Look caller core.cycle ∷ []) core
  state-looked caller = grind (arith, legal-push, placed_of-push, next_of-push, add-zero, is_changed-push, not-counted)

  -- An opening

  pub state-opened : (mask : ℕ) → mask ≡ mask_at (onward core) 0 → IsStateAs prunes (history ++ Open core.cycle mask ∷ []) (opened core)
  state-opened mask by = grind (arith, legal-push, mask-is, placed_of-push, next_of-push, pending-is, is_changed-push, not-counted)

  -- An answer

  module _ (caller : ℕ) (change : Change) (from : ℕ) (verdict : Verdict) (trail : List ℕ) (early : from ≤ core.cycle)
      (held : IsHeld prunes from (placed_of history) core.placed) (right : IsRightAnswer core.rules history change from verdict trail) where
    abbrev event : Event
    event = Submit caller change from verdict trail

    placed-by : (b : Bool) → is_accepted verdict ≡ b → placed_of (history ++ event ∷ []) ≡ (if b then applied whole change else whole)
    placed-by b by = placed_of-push history event ∙ ap (λ (t : Bool). if t then applied whole change else whole) by

    waiting-then : core.pending ≡ pending_at (plan_of rules (placed_of (history ++ event ∷ []))) core.cycle
    waiting-then =
        of.waiting ∙ sym ((same-of_legal rules history event of.legal right).pending core.cycle (omega arith))

    next-then : core.cycle ≡ next_of (history ++ event ∷ [])
    next-then = of.next ∙ sym (next_of-push history event ∙ add-zero (next_of history))

    changed-then : (b : Bool) → is_accepted verdict ≡ b → is_changed (history ++ event ∷ []) ≡ (if b then true else is_changed history)
    changed-then b by = is_changed-push history event ∙ ap (λ (t : Bool). if t then true else is_changed history) by

    counted-then : (b : Bool) → is_accepted verdict ≡ b → core.accepted + cond b 1 0 ≡ accepted_of (history ++ event ∷ [])
    counted-then b by = grind (arith, accepted_of-push)

    state-by : (b : Bool) → is_accepted verdict ≡ b
        → IsStateAs prunes (history ++ event ∷ [])
        (if b then record core {
          placed = kept_by prunes from (applied core.placed change);
          learned = Some (kept_by prunes from (applied core.placed change));
          accepted = core.accepted + 1;
        } else core)
    state-by true by = record {
      legal = legal-push rules history event of.legal right;
      held =
          subst (λ (l : List Placed). IsHeld prunes core.cycle l (kept_by prunes from (applied core.placed change))) (sym (placed-by true by))
          (held-applied prunes from core.cycle whole core.placed change early held);
      next = next-then;
      waiting = waiting-then;
      to_learn = ap (λ (b : Bool). if b then Some (kept_by prunes from (applied core.placed change)) else None) (sym (changed-then true by));
      counted = counted-then true by;
    }
    state-by false by = grind (arith, common_steps, legal-push, placed-by, next-then, waiting-then, changed-then, add-zero, counted-then)

    pub state-answered : IsStateAs prunes (history ++ event ∷ []) (answered_as prunes core from change verdict)
    state-answered = state-by (is_accepted verdict) refl

  module _ (verdicts : VerdictLaw) (trails : TrailLaw) (change : Change) (types : All HasTypes change.ops) (verdict : Verdict)
      (decided : IsVerdict core.rules core.placed core.pending core.cycle core.cycle change verdict) where
    pub state-right : (trail : List ℕ) → trail ≡ trail_of (plan_from rules (applied core.placed change) core.cycle core.pending) verdict
        → IsRightAnswer rules history change core.cycle verdict trail
    state-right trail by =
        let next = of.next in
        grind (arith, verdict-held, whole-well, since-now)
