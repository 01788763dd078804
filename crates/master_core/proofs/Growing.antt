-- All placed entries, beside those that a core keeps.
use Rattle.std.proofs.Common.{◌≡◌, ℕ, ◌+◌, ◌≤◌, Bool, true, if◌then◌else◌, List, [], ◌∷◌, ◌++◌, Option, Result, OnOk, OnErr, IfSome, length, option_map, arith}
use Rattle.std.specs.List.{cons_option, filter_map}
use Rattle.std.proofs.lemmas.List.{length-append, length-map}
use Rattle.requirement_table.specs.declared.entries.Placed.{Placed}
use Rattle.change_protocol.specs.declared.operations.Change.{Change}
use Rattle.change_protocol.specs.Applied.{applied}
use Rattle.change_protocol.specs.Malformed.{IsWellFormed}
use Rattle.planner_policies.specs.Plan.{Planning, pending_at}
use Rattle.admission_rules.specs.declared.Rules.{Rules}
use Rattle.admission.specs.declared.verdict.Verdict.{Verdict}
use Rattle.admission.specs.Verdict.{IsVerdict, bounds_by, is_accepted, trail_of}
use Rattle.master_core.specs.declared.event.Event.{Event}
use Rattle.master_core.specs.declared.event.Event.TheVariants.{Submit}
use Rattle.master_core.specs.History.{IsRightAnswer, next_of, placed_after, placed_of, plan_of}
use Rattle.master_core.specs.Cores.{CoreView, answered_as}
use Rattle.master_core.specs.Kept.{all_of, kept_behind}
use Rattle.master_core.proofs.Histories.{placed_of-push}

-- A change places at most one entry for each operation

length-cons_option : {X : Type 0} (o : Option X) (l : List X) → length (cons_option o l) ≤ length l + 1
length-cons_option o l = grind arith

length-picked : {X Y : Type 0} (h : X → Option Y) (xs : List X) → length (filter_map h xs) ≤ length xs
length-picked h [] = omega arith
length-picked h (x ∷ xs) = omega (arith, length-cons_option (h x) (filter_map h xs), length-picked h xs)

pub length-applied : (placed : List Placed) (change : Change) → length (applied placed change) ≤ length placed + length change.ops
length-applied placed change = grind (arith, length-append, length-map, length-picked)

-- there is room for the list, whether the change was applied or not
pub within-room : {X E : Type 0} (result : Result X E) (old new : List Placed) (change : Change) (room : ℕ) → OnOk result (new ≡ applied old change)
    → OnErr result (new ≡ old) → length (applied old change) ≤ room → length old ≤ room → length new ≤ room
within-room result old new change room ok same more here = grind arith

-- nor has it a trail
pub trail-accepted : (plan : Planning) (verdict : Verdict) → is_accepted verdict ≡ true → trail_of plan verdict ≡ []
trail-accepted plan verdict accepted = grind arith

-- All placed entries of a history, where they are kept

pub all-formed : (rules : Rules) (keeps : Bool) (history : List Event) (change : Change) (from : ℕ) (verdict : Verdict) (trail : List ℕ)
    → IsRightAnswer rules history change from verdict trail
    → IfSome (all_of keeps history) (λ list. is_accepted verdict ≡ true → IsWellFormed list (bounds_by rules) change)
all-formed rules keeps history change from verdict trail right = grind arith

pub all-answered : (keeps : Bool) (history : List Event) (caller : ℕ) (change : Change) (from : ℕ) (verdict : Verdict) (trail : List ℕ)
    → option_map (λ list. if is_accepted verdict then applied list change else list) (all_of keeps history)
    ≡ all_of keeps (history ++ Submit caller change from verdict trail ∷ [])
all-answered keeps history caller change from verdict trail = grind (arith, placed_of-push)

-- an event that leaves the entries
pub all-same : (keeps : Bool) (history : List Event) (event : Event) → placed_after (placed_of history) event ≡ placed_of history
    → all_of keeps history ≡ all_of keeps (history ++ event ∷ [])
all-same keeps history event same = grind (arith, placed_of-push)

-- a verdict that was planned from the next cycle on
pub lean-verdict : (rules : Rules) (history : List Event) (change told : Change) (from : ℕ) (verdict : Verdict) (trail : List ℕ) → from ≡ next_of history
    → change ≡ told → IsRightAnswer rules history change from verdict trail
    → IsVerdict rules (placed_of history) (pending_at (plan_of rules (placed_of history)) (next_of history)) (next_of history) (next_of history) told verdict
lean-verdict rules history change told from verdict trail here is right = grind arith

-- what a core keeps behind an answer
kept-by : (b : Bool) (one other : CoreView) → (if b then one else other).placed ≡ (if b then one.placed else other.placed)
kept-by b one other = grind arith

pub answered-placed : (core : CoreView) (from : ℕ) (change : Change) (verdict : Verdict)
    → (answered_as true core from change verdict).placed ≡ kept_behind core.placed from change verdict
answered-placed core from change verdict = kept-by (is_accepted verdict) _ core
