-- What holds of every legal history.
use Rattle.std.proofs.Common.{ℕ, ◌+◌, ◌≤◌, cond, List, [], ◌∷◌, ◌++◌, All, refl, subst, inl, zero-add, arith}
use Rattle.std.proofs.Math.Bool.{and-false}
use Rattle.std.proofs.Math.Nat.{le_trans}
use Rattle.std.proofs.lemmas.List.Elements.{All-nil}
use Rattle.requirement_table.specs.declared.entries.Placed.{Placed}
use Rattle.requirement_table.specs.Table.{IsWellPlaced}
use Rattle.bit_sets.proofs.Shared.{has_bit-none}
use Rattle.change_protocol.specs.declared.operations.Change.{Change}
use Rattle.change_protocol.specs.Applied.{IsChangedAt, applied}
use Rattle.change_protocol.specs.Malformed.{change_faults, op_faults}
use Rattle.change_protocol.proofs.Shared.{changed-applied, well_placed-applied}
use Rattle.planner_policies.specs.Plan.{IsValid, NeverMisses, left_after, pending_at, pending_before}
use Rattle.planner_policies.proofs.Shared.{valid-along}
use Rattle.admission_rules.specs.declared.Rules.{Rules}
use Rattle.admission.specs.declared.verdict.Verdict.{Verdict}
use Rattle.admission.specs.declared.verdict.Verdict.TheVariants.{Malformed, Passed, Miss, Horizon, Accepted}
use Rattle.admission.specs.Verdict.{bounds_by, is_accepted, plan_from}
use Rattle.master_core.specs.declared.event.Event.{Event}
use Rattle.master_core.specs.declared.event.Event.TheVariants.{Submit, Look, Open}
use Rattle.master_core.specs.History.{IsLegal, IsRight, IsRightAnswer, next_of, placed_after, placed_of, plan_of}
use Rattle.master_core.proofs.Accepted.{never-missed-then}
use Rattle.master_core.proofs.KnownSlots.{HasNode, HasSlot, both-none, nodes-applied, slots-applied}
use Rattle.master_core.proofs.Recurring.{recurring}
use Rattle.master_core.proofs.Histories.{kept-along, placed_of-push}

pub record IsSound (rules : Rules) (placed : List Placed) : Type 0 where
  pub well_placed : IsWellPlaced placed
  pub slots : All (HasSlot rules.slots) placed
  pub nodes : All (HasNode rules.nodes) placed
  pub in_time : NeverMisses (plan_of rules placed)

-- how an event changes the list: at a start that is not below the next cycle
pub record IsFelt (next : ℕ) (old new : List Placed) : Type 0 where
  pub start : ℕ
  pub ahead : next ≤ start
  pub changed : IsChangedAt start old new

unchanged : (start : ℕ) (placed : List Placed) → IsChangedAt start placed placed
unchanged start [] = λ i d within. absurd (omega arith)
unchanged start (p ∷ placed) = (inl refl, unchanged start placed)

unfelt : (next : ℕ) (placed : List Placed) → IsFelt next placed placed
unfelt next placed = record { start = next; ahead = omega arith; changed = unchanged next placed }

-- what an answer makes of the list
pub record IsAfter (rules : Rules) (next : ℕ) (old new : List Placed) : Type 0 where
  pub sound : IsSound rules new
  pub felt : IsFelt next old new

stays : (rules : Rules) (next : ℕ) (placed : List Placed) → IsSound rules placed → IsAfter rules next placed placed
stays rules next placed sound = record { sound = sound; felt = unfelt next placed }

pub after-answer : (rules : Rules) (history : List Event) (change : Change) (from : ℕ) (verdict : Verdict) (trail : List ℕ)
    → IsSound rules (placed_of history) → IsRightAnswer rules history change from verdict trail
    → IsAfter rules (next_of history) (placed_of history) (cond (is_accepted verdict) (applied (placed_of history) change) (placed_of history))
after-answer rules history change from (Malformed op why) trail sound right = stays rules (next_of history) (placed_of history) sound
after-answer rules history change from (Passed start opened) trail sound right = stays rules (next_of history) (placed_of history) sound
after-answer rules history change from (Miss slot release cycle) trail sound right = stays rules (next_of history) (placed_of history) sound
after-answer rules history change from (Horizon first walked) trail sound right = stays rules (next_of history) (placed_of history) sound
after-answer rules history change from (Accepted first length) trail sound right =
    let old = placed_of history in
    let well = sound.well_placed in
    let in_time = right.answer.0 in
    let changed = changed-applied old change well.in_range in
    let formed = both-none (change_faults change.start change.ops) (op_faults old (bounds_by rules) change.start [] change.ops) in_time.well_formed in
    let then : IsWellPlaced (applied old change) = well_placed-applied old (bounds_by rules) change right.room well formed.0 formed.1 right.types in
    let opened = right.opened in
    let ahead = in_time.ahead in
    record {
      sound = record {
        well_placed = then;
        slots = slots-applied old (bounds_by rules) change formed.1 sound.slots;
        nodes = nodes-applied old (bounds_by rules) change formed.1 sound.nodes;
        in_time = never-missed-then rules old (applied old change) change.start from changed (le_trans opened ahead) sound.in_time
            (recurring (plan_from rules (applied old change) from (pending_at (plan_of rules old) from)) rules.horizon first length then right.answer.1.0
            right.answer.1.1 right.answer.1.2);
      };
      felt = record { start = change.start; ahead = ahead; changed = changed };
    }

after-event : (rules : Rules) (history : List Event) (event : Event) → IsSound rules (placed_of history) → IsRight rules history event
    → IsAfter rules (next_of history) (placed_of history) (placed_after (placed_of history) event)
after-event rules history (Submit caller change from verdict trail) sound right = after-answer rules history change from verdict trail sound right
after-event rules history (Look caller next) sound right = stays rules (next_of history) (placed_of history) sound
after-event rules history (Open cycle mask) sound right = stays rules (next_of history) (placed_of history) sound

one-more : (rules : Rules) (history : List Event) (event : Event) → IsSound rules (placed_of history) → IsRight rules history event
    → IsAfter rules (next_of history) (placed_of history) (placed_of (history ++ event ∷ []))
one-more rules history event sound right = grind (arith, placed_of-push, after-event)

pub nothing-missed : (rules : Rules) → NeverMisses (plan_of rules [])
nothing-missed rules m slot known = and-false (left_after (plan_of rules []) (0 + m) (pending_before (plan_of rules []) m) slot)

pub sound-of_legal : (rules : Rules) (history : List Event) → IsLegal rules history → IsSound rules (placed_of history)
sound-of_legal rules history legal =
    kept-along (IsRight rules) (λ (h : List Event). IsSound rules (placed_of h))
    (λ before event was sound right. (one-more rules before event sound right).sound) [] history tt
    (record { well_placed = record { in_range = λ i d within. absurd (omega arith); in_order = λ i j d order within. absurd (omega arith) }; slots = All-nil (HasSlot rules.slots); nodes = All-nil (HasNode rules.nodes); in_time = nothing-missed rules })
    legal

pub valid-of_legal : (rules : Rules) (history : List Event) → IsLegal rules history
    → IsValid (placed_of history) (next_of history) (pending_at (plan_of rules (placed_of history)) (next_of history))
valid-of_legal rules history legal =
    let sound = sound-of_legal rules history legal in
    subst (λ (n : ℕ). IsValid (placed_of history) n (pending_at (plan_of rules (placed_of history)) (next_of history))) (zero-add (next_of history))
    (valid-along (plan_of rules (placed_of history)) (next_of history) sound.well_placed (λ slot held. let none = has_bit-none slot in absurd (cc))
    (λ m slot below known. sound.in_time m slot known))

pub felt-of_legal : (rules : Rules) (history : List Event) (event : Event) → IsLegal rules history → IsRight rules history event
    → IsFelt (next_of history) (placed_of history) (placed_of (history ++ event ∷ []))
felt-of_legal rules history event legal right = (one-more rules history event (sound-of_legal rules history legal) right).felt
