-- A change is not felt before its start.
use Rattle.std.proofs.Common.{◌≡◌, ℕ, ◌+◌, ◌<◌, ◌≤◌, Bool, Option, Some, List, arith}
use Rattle.std.specs.Option.{option_map}
use Rattle.std.proofs.lemmas.Option.{same_Some}
use Rattle.requirement_table.specs.declared.entries.Placed.{Placed}
use Rattle.requirement_table.specs.Instance.{Instance, release_of}
use Rattle.requirement_table.specs.Table.{IsWellPlaced, instance_in}
use Rattle.change_protocol.specs.declared.operations.Change.{Change}
use Rattle.change_protocol.specs.Applied.{IsChangedAt, applied, without_end}
use Rattle.change_protocol.proofs.Shared.{changed-applied, kept-instance, same-instances, same-last, same-releases, same-worst}
use Rattle.planner_policies.specs.declared.Policy.{Policy}
use Rattle.planner_policies.specs.Plan.{IsValid, by_number, mask_at, pending_at}
use Rattle.admission_rules.specs.declared.Rules.{Rules}
use Rattle.admission.specs.Verdict.{plan_from, ranking_by}
use Rattle.admission.proofs.Cycles.{IsLike, same-mask, same-pending}

by-same : (a b a' b' : ℕ) (one other : Bool) → a ≡ a' → b ≡ b' → one ≡ other → by_number a b one ≡ by_number a' b' other
by-same a b a' b' one other first second third = cc

pub like-changed : (policy : Policy) (start c : ℕ) (old new : List Placed) → IsChangedAt start old new → c < start → IsLike policy new old c c
like-changed policy start c old new changed early =
    let same : (slot : ℕ) → option_map without_end (instance_in new slot c) ≡ option_map without_end (instance_in old slot c) =
    λ slot. same-instances start slot c old new changed early in
    grind (arith, same-releases, same-worst, by-same, same-last)

-- so up to its start the same is pending, and before it the same is planned
pub pending-unfelt : (rules : Rules) (placed : List Placed) (change : Change) (from pending n : ℕ) → IsWellPlaced placed → from + n ≤ change.start
    → pending_at (plan_from rules (applied placed change) from pending) n ≡ pending_at (plan_from rules placed from pending) n
pending-unfelt rules placed change from pending n well early =
    same-pending (ranking_by rules (applied placed change)) placed rules.window from pending n
    (λ m below. like-changed rules.policy change.start (from + m) placed (applied placed change) (changed-applied placed change well.in_range) (omega arith))

pub mask-unfelt : (rules : Rules) (placed : List Placed) (change : Change) (from pending n : ℕ) → IsWellPlaced placed → from + n < change.start
    → mask_at (plan_from rules (applied placed change) from pending) n ≡ mask_at (plan_from rules placed from pending) n
mask-unfelt rules placed change from pending n well early =
    same-mask (ranking_by rules (applied placed change)) placed rules.window from pending n
    (λ m below. like-changed rules.policy change.start (from + m) placed (applied placed change) (changed-applied placed change well.in_range) (omega arith))

-- what is pending before the start may still be sent
some-of : (o : Option Instance) (i : Instance) → option_map without_end o ≡ Some (without_end i)
    → (j : Instance) × (o ≡ Some j) × (release_of j.placed j.number ≡ release_of i.placed i.number)
some-of o i is = grind (arith, same_Some)

pub held-changed : (start c pending : ℕ) (old new : List Placed) → IsChangedAt start old new → c ≤ start → IsValid old c pending → IsValid new c pending
held-changed start c pending old new changed early valid slot in' =
    let held = valid slot in' in
    let found = some-of (instance_in new slot c) held.instance
    (kept-instance start slot c old new held.instance changed held.found (omega arith)) in
    grind arith
