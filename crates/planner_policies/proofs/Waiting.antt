-- What a valid state says of the slots that are pending before a planning.
use Rattle.std.proofs.Common.{◌≡◌, ℕ, ◌+◌, ◌<◌, true, ◌||◌, Option, Some, IsSomeAnd, List, ap}
use Rattle.requirement_table.specs.declared.entries.Placed.{Placed}
use Rattle.requirement_table.specs.Flags.{waits}
use Rattle.requirement_table.specs.Instance.{Instance, release_of}
use Rattle.bit_sets.specs.Sets.{has_bit}
use Rattle.requirement_table.specs.Table.{instance_in, releases_in}
use Rattle.planner_policies.specs.Plan.{IsValid, Planning, flags_of, pending_before, pending_in}
use Rattle.planner_policies.proofs.Fits.{held-is}

some-before : (o : Option Instance) (i : Instance) (c : ℕ) → o ≡ Some i → release_of i.placed i.number < c
    → IsSomeAnd o (λ x. release_of x.placed x.number < c)
some-before o i c is before = rw is before

pub valid-held : (placed : List Placed) (c pending : ℕ) → IsValid placed c pending → (slot : ℕ) → has_bit pending slot ≡ true
    → IsSomeAnd (instance_in placed slot c) (λ i. release_of i.placed i.number < c)
valid-held placed c pending valid slot holds =
    let held = valid slot holds in some-before (instance_in placed slot c) held.instance c held.found held.before

-- what waits where the plan is followed is what is pending
pub waits-is : (plan : Planning) (n slot : ℕ) → waits plan.placed (flags_of plan) plan.from (has_bit plan.pending) n slot
    ≡ pending_in plan.placed (plan.from + n) (pending_before plan n) slot
waits-is plan n slot = ap (λ b. b || releases_in plan.placed (plan.from + n) slot) (held-is plan n slot)
