-- The certificate of the table after a history.
use Rattle.std.proofs.Common.{◌≡◌, ℕ, zero, suc, ◌+◌, ◌<◌, List, [], ◌∷◌, ◌++◌, Option, Some, All, get_or, length, map, take, refl, sym, ap, ◌∙◌, subst, zero-add, arith}
use Rattle.std.proofs.lemmas.Grind.{common_steps}
use Rattle.std.specs.List.{range_with_len}
use Rattle.std.proofs.lemmas.List.{append-nil, map-append, take_more}
use Rattle.std.proofs.lemmas.List.Elements.{All-head, All-tail}
use Rattle.requirement_table.specs.declared.entries.Placed.{Placed}
use Rattle.requirement_table.specs.Opening.{Opening}
use Rattle.change_protocol.specs.declared.operations.Change.{Change}
use Rattle.change_protocol.specs.Applied.{applied}
use Rattle.planner_policies.specs.Plan.{NeverMisses, Planning, Ranking, is_missed_at, mask_at, pending_at}
use Rattle.planner_policies.proofs.Shared.{on-missed}
use Rattle.admission_rules.specs.declared.Rules.{Rules}
use Rattle.admission.specs.declared.certify_fault.CertifyFault.{CertifyFault}
use Rattle.admission.specs.declared.certify_fault.CertifyFault.TheVariants.{Memory}
use Rattle.admission.specs.declared.verdict.Verdict.{Verdict}
use Rattle.admission.specs.Certified.{IsFaultOnPlan}
use Rattle.admission.specs.declared.verdict.Verdict.TheVariants.{Accepted}
use Rattle.admission.specs.Verdict.{IsInTime, IsTakenWhereDue, IsVerdictOnPlan, masks_of, plan_from}
use Rattle.master_core.specs.declared.event.Event.{Event}
use Rattle.master_core.specs.declared.event.Event.TheVariants.{Open}
use Rattle.master_core.specs.Cores.{CoreView, IsCore, onward}
use Rattle.master_core.specs.Certificates.{onward_of, told_of}
use Rattle.master_core.specs.History.{next_of, placed_of, plan_of}
use Rattle.master_core.specs.Keeping.{IsMasterKept}
use Rattle.master_core.specs.Openings.{opening_of, openings_of}
use Rattle.master_core.proofs.Earlier.{AreOpened, IsBy, opened-of_legal, range-more}
use Rattle.master_core.proofs.Histories.{openings_of-push}
use Rattle.master_core.proofs.Keeping.{kept-in_time, kept-well_placed}
use Rattle.master_core.proofs.Repeating.{GoesRound, recurs-of_legal, recurs-onward}
use Rattle.master_core.proofs.Told.{told-of_legal}

-- The opened cycles

masks-range : (plan : Planning) (n : ℕ) → masks_of plan n ≡ map (mask_at plan) (range_with_len 0 n)
masks-range plan zero = refl
masks-range plan (suc n) =
    ap (λ (list : List ℕ). list ++ mask_at plan n ∷ []) (masks-range plan n)
    ∙ ap (λ (k : ℕ). map (mask_at plan) (range_with_len 0 n) ++ mask_at plan k ∷ []) (sym (zero-add n))
    ∙ sym (map-append (mask_at plan) (range_with_len 0 n) ((0 + n) ∷ []))
    ∙ ap (map (mask_at plan)) (sym (range-more 0 n))

masks-by : (rules : Rules) (next : ℕ) (placed : List Placed) (openings : List Opening) → All (IsBy rules next placed) openings
    → map (λ o. o.mask) openings ≡ map (mask_at (plan_of rules placed)) (map (λ o. o.cycle) openings)
masks-by rules next placed [] by = refl
masks-by rules next placed (o ∷ openings) by =
    ap (λ (list : List ℕ). o.mask ∷ list) (masks-by rules next placed openings (All-tail (IsBy rules next placed) o openings by))
    ∙ ap (λ (mask : ℕ). mask ∷ map (mask_at (plan_of rules placed)) (map (λ o. o.cycle) openings)) (All-head (IsBy rules next placed) o openings by).mask

opened-masks : (rules : Rules) (history : List Event) → AreOpened rules history
    → map (λ o. o.mask) (openings_of history) ≡ masks_of (plan_of rules (placed_of history)) (next_of history)
opened-masks rules history opened =
    masks-by rules (next_of history) (placed_of history) (openings_of history) opened.each
    ∙ ap (map (mask_at (plan_of rules (placed_of history)))) opened.cycles
    ∙ sym (masks-range (plan_of rules (placed_of history)) (next_of history))

-- one event more
opening-of : (history : List Event) (event : Event) (cycle mask : ℕ) → event ≡ Open cycle mask → map (λ o. o.mask) (opening_of history event) ≡ mask ∷ []
opening-of history event cycle mask is = ap (λ (e : Event). map (λ o. o.mask) (opening_of history e)) is

no-opening : (history : List Event) (event : Event) → ((cycle mask : ℕ) → event ≡ Open cycle mask → ⊥) → opening_of history event ≡ []
no-opening history event not = grind arith

masks-more : (history : List Event) (event : Event)
    → map (λ o. o.mask) (openings_of (history ++ event ∷ [])) ≡ map (λ o. o.mask) (openings_of history) ++ map (λ o. o.mask) (opening_of history event)
masks-more history event = grind (arith, openings_of-push, map-append)

module _ (history : List Event) (n : ℕ) (event : Event) (masks : List ℕ) (within : n < length history) (at : event ≡ get_or history n event)
    (listed : masks ≡ map (λ o. o.mask) (openings_of (take n history))) where
  more-is : map (λ o. o.mask) (openings_of (take (n + 1) history)) ≡ masks ++ map (λ o. o.mask) (opening_of (take n history) event)
  more-is = grind (arith, common_steps, take_more, masks-more)

  pub listed-opening : (cycle mask : ℕ) → event ≡ Open cycle mask → masks ++ mask ∷ [] ≡ map (λ o. o.mask) (openings_of (take (n + 1) history))
  listed-opening cycle mask is = sym (more-is ∙ ap (λ (list : List ℕ). masks ++ list) (opening-of (take n history) event cycle mask is))

  pub listed-other : ((cycle mask : ℕ) → event ≡ Open cycle mask → ⊥) → masks ≡ map (λ o. o.mask) (openings_of (take (n + 1) history))
  listed-other not = grind (arith, more-is, no-opening, append-nil)

-- The faults

-- a core has a certificate

pub core-no_fault : (core : CoreView) → IsCore core → (fault : CertifyFault) → IsFaultOnPlan core.rules.horizon (onward core) fault → fault ≡ Memory
core-no_fault core is fault at = grind arith

-- what is known of the verdict on a change behind a history
abbrev pub IsDue : Rules → List Event → Change → Verdict → Type 0
IsDue rules history change verdict =
    IsInTime rules (placed_of history) (next_of history) change
    → IsTakenWhereDue rules
    (plan_from rules (applied (placed_of history) change) (next_of history) (pending_at (plan_of rules (placed_of history)) (next_of history))) verdict

module _ (rules : Rules) (history : List Event) (list : List Placed) (since : ℕ) (ranked : Ranking) (cycle pending : ℕ) (learned : Option (List Placed))
    (kept : IsMasterKept rules history list since ranked cycle pending learned) where
  onward-is : plan_from rules list cycle pending ≡ onward_of rules history
  onward-is = grind arith

  pub kept-opened : map (λ o. o.mask) (openings_of history) ≡ masks_of (plan_of rules list) cycle
  kept-opened = grind (arith, opened-masks, opened-of_legal)

  kept-onward : NeverMisses (plan_from rules list cycle pending)
  kept-onward m slot known =
      sym
      (on-missed (plan_of rules list) cycle m slot known
      ∙ ap (λ (n : ℕ). is_missed_at (plan_from rules list n (pending_at (plan_of rules list) cycle)) m slot) (zero-add cycle)
      ∙ ap (λ (set : ℕ). is_missed_at (plan_from rules list cycle set) m slot) (sym kept.waiting))
      ∙ kept-in_time rules history list since ranked cycle pending learned kept (cycle + m) slot known

  pub kept-no_fault : GoesRound → (fault : CertifyFault) → IsFaultOnPlan rules.horizon (plan_from rules list cycle pending) fault → fault ≡ Memory
  kept-no_fault round fault is = grind (arith, kept-onward, recurs-onward, kept-well_placed, recurs-of_legal, onward-is)

  -- what was told of the planning that goes on
  pub kept-told : (told : Option (ℕ × ℕ)) → told ≡ told_of cycle history → (again : ℕ × ℕ) → told ≡ Some again
      → IsVerdictOnPlan rules.horizon (plan_from rules list cycle pending) (Accepted again.0 again.1)
  kept-told told told_is again is =
      let here = told-of_legal rules history cycle kept.legal (sym kept.next) in
      grind (arith, onward-is)

  -- a change that is in time is taken where that is due
  pub kept-due : (change : Change) (verdict : Verdict)
      → (IsInTime rules list cycle change → IsTakenWhereDue rules (plan_from rules (applied list change) cycle pending) verdict)
      → IsDue rules history change verdict
  kept-due change verdict due =
      subst
      (λ (l : List Placed). IsInTime rules l (next_of history) change
      → IsTakenWhereDue rules (plan_from rules (applied l change) (next_of history) (pending_at (plan_of rules l) (next_of history))) verdict) kept.placed
      (subst
      (λ (n : ℕ). IsInTime rules list n change
      → IsTakenWhereDue rules (plan_from rules (applied list change) n (pending_at (plan_of rules list) n)) verdict) kept.next
      (subst (λ (set : ℕ). IsInTime rules list cycle change → IsTakenWhereDue rules (plan_from rules (applied list change) cycle set) verdict) kept.waiting due))
