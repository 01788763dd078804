-- The cycles that are opened stay as they are, whatever comes later.
use Rattle.std.proofs.Common.{◌≡◌, ℕ, zero, suc, ◌+◌, ◌<◌, ◌≤◌, cond, List, [], ◌∷◌, ◌++◌, option_map, All, map, refl, sym, ap, ◌∙◌, add-zero, zero-add, arith}
use Rattle.std.proofs.lemmas.Grind.{common_steps}
use Rattle.std.specs.List.{range_with_len}
use Rattle.std.proofs.lemmas.List.{append-nil, map-append}
use Rattle.requirement_table.specs.declared.entries.Placed.{Placed}
use Rattle.requirement_table.specs.Opening.{Opening}
use Rattle.requirement_table.specs.Table.{instance_in}
use Rattle.change_protocol.specs.Applied.{without_end}
use Rattle.change_protocol.proofs.Shared.{same-instances}
use Rattle.planner_policies.specs.Plan.{mask_at, pending_at}
use Rattle.admission_rules.specs.declared.Rules.{Rules}
use Rattle.master_core.specs.declared.event.Event.{Event}
use Rattle.master_core.specs.declared.event.Event.TheVariants.{Submit, Look, Open}
use Rattle.master_core.specs.History.{IsLegal, IsRight, is_open, next_of, placed_of, plan_of}
use Rattle.master_core.specs.Openings.{opening_of, openings_of}
use Rattle.master_core.proofs.Histories.{kept-along, next_of-push, openings_of-push, placed_of-push}
use Rattle.master_core.proofs.Legal.{IsFelt, felt-of_legal}
use Rattle.master_core.proofs.Unfelt.{mask-unfelt, pending_set-unfelt}

-- the cycles below `next` have the same plan and the same instances
pub record IsSameBefore (rules : Rules) (next : ℕ) (old new : List Placed) : Type 0 where
  pub masks : (c : ℕ) → c < next → mask_at (plan_of rules new) c ≡ mask_at (plan_of rules old) c
  pub pending : (c : ℕ) → c ≤ next → pending_at (plan_of rules new) c ≡ pending_at (plan_of rules old) c
  pub instances : (c slot : ℕ) → c < next → option_map without_end (instance_in new slot c) ≡ option_map without_end (instance_in old slot c)

pub same-before : (rules : Rules) (next : ℕ) (old new : List Placed) → IsFelt next old new → IsSameBefore rules next old new
same-before rules next old new felt =
    record {
      masks = λ c early. mask-unfelt (plan_of rules old) new felt.start felt.changed c (omega arith);
      pending = λ c early. pending_set-unfelt (plan_of rules old) new felt.start felt.changed c (omega arith);
      instances = λ c slot early. same-instances felt.start slot c old new felt.changed (omega arith);
    }

pub same-of_legal : (rules : Rules) (history : List Event) (event : Event) → IsLegal rules history → IsRight rules history event
    → IsSameBefore rules (next_of history) (placed_of history) (placed_of (history ++ event ∷ []))
same-of_legal rules history event legal right = grind (arith, same-before, felt-of_legal)

-- an opening is of a cycle below `next`, by the plan of a list and with its instances
pub record IsBy (rules : Rules) (next : ℕ) (placed : List Placed) (o : Opening) : Type 0 where
  pub opened : o.cycle < next
  pub mask : o.mask ≡ mask_at (plan_of rules placed) o.cycle
  pub instances : (slot : ℕ) → option_map without_end (instance_in o.placed slot o.cycle) ≡ option_map without_end (instance_in placed slot o.cycle)

-- the openings of a history are those of the cycles below the next one, in their order, each by the plan of the last
-- list
pub record AreOpened (rules : Rules) (history : List Event) : Type 0 where
  pub cycles : map (λ o. o.cycle) (openings_of history) ≡ range_with_len 0 (next_of history)
  pub each : All (IsBy rules (next_of history) (placed_of history)) (openings_of history)

-- the openings that an event is
fresh : (rules : Rules) (history : List Event) (event : Event) → IsRight rules history event
    → All (IsBy rules (next_of history + cond (is_open event) 1 0) (placed_of (history ++ event ∷ []))) (opening_of history event)
fresh rules history event right = grind (arith, placed_of-push, option_map)

pub range-more : (a n : ℕ) → range_with_len a (suc n) ≡ range_with_len a n ++ (a + n) ∷ []
range-more a zero = ap (λ (n : ℕ). n ∷ []) (sym (add-zero a))
range-more a (suc n) =
    let at : a + 1 + n ≡ a + suc n = omega arith in
    ap (λ (l : List ℕ). a ∷ l) (range-more (a + 1) n ∙ ap (λ (m : ℕ). range_with_len (a + 1) n ++ m ∷ []) at)

none-more : (history : List Event) → map (λ o. o.cycle) (openings_of history) ≡ range_with_len 0 (next_of history)
    → map (λ o. o.cycle) (openings_of history ++ []) ≡ range_with_len 0 (next_of history + 0)
none-more history was = grind (arith, append-nil, add-zero)

numbered : (rules : Rules) (history : List Event) (event : Event) → IsRight rules history event
    → map (λ o. o.cycle) (openings_of history) ≡ range_with_len 0 (next_of history)
    → map (λ o. o.cycle) (openings_of history ++ opening_of history event)
    ≡ range_with_len 0 (next_of history + cond (is_open event) 1 0)
numbered rules history (Submit caller change from verdict trail) right was = none-more history was
numbered rules history (Look caller next) right was = none-more history was
numbered rules history (Open cycle mask) right was =
    let o : Opening = record { cycle = cycle; mask = mask; placed = placed_of history } in
    let more : suc (next_of history) ≡ next_of history + 1 = omega arith in
    map-append (λ (o : Opening). o.cycle) (openings_of history) (o ∷ [])
    ∙ ap (λ (l : List ℕ). l ++ cycle ∷ []) was
    ∙ ap (λ (n : ℕ). range_with_len 0 (next_of history) ++ n ∷ []) (right.0 ∙ sym (zero-add (next_of history)))
    ∙ sym (range-more 0 (next_of history))
    ∙ ap (λ (n : ℕ). range_with_len 0 n) more

opened-more : (rules : Rules) (history : List Event) (event : Event) → IsLegal rules history → AreOpened rules history → IsRight rules history event
    → AreOpened rules (history ++ event ∷ [])
opened-more rules history event legal opened right =
    grind (arith, common_steps, next_of-push, same-of_legal, openings_of-push, numbered, fresh)

pub opened-of_legal : (rules : Rules) (history : List Event) → IsLegal rules history → AreOpened rules history
opened-of_legal rules history legal =
    kept-along (IsRight rules) (AreOpened rules) (λ before event was opened right. opened-more rules before event was opened right) [] history tt
    (record { cycles = refl; each = λ i d within. absurd (omega arith) }) legal
