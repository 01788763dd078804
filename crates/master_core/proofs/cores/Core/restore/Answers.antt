use Rattle.std.proofs.Common.{arith, refl}
use Rattle.master_core.proofs.CoreSteps.{core-tested}
use Rattle.master_core.proofs.cores.Core.restore.Goals as goal

pub invariant_of-result : goal.invariant_of-result
invariant_of-result c =
    let list = rw c.in-Some.is at c.in_ok-safe_list.ensures.same in
    let safe = rw (c.in-Some.is, c.into_vec.ensures.list) at c.in_ok-safe_list.ensures.safe in
    let slots = rw c.as_slice.ensures.list at c.if-not-can_keep.ensures.slots in
    let nodes = rw c.as_slice.ensures.list at c.if-not-can_keep.ensures.nodes in
    let few = rw c.as_slice.ensures.list at c.if-not-can_keep.ensures.few in
    rw (
      c.in_ok-table.ensures.placed,
      c.in_ok-table.ensures.since,
      c.in_ok-table.ensures.ranked,
      c.into_vec-2.ensures.list,
      c.in_ok-learned.ensures.learned,
      c.as_slice-2.ensures.list,
      list,
      c.into_vec.ensures.list,
    ) (core-tested c.args.saved safe c.known.ensures.below (slots refl) (nodes refl) (few refl), record { passed = omega arith; left = refl })

pub returns-clause-found : goal.returns-clause-found
returns-clause-found c =
    let list = rw c.in-Some.is at c.in_ok-safe_list.ensures.same in
    let safe = rw (c.in-Some.is, c.into_vec.ensures.list) at c.in_ok-safe_list.ensures.safe in
    let slots = rw c.as_slice.ensures.list at c.if-not-can_keep.ensures.slots in
    let nodes = rw c.as_slice.ensures.list at c.if-not-can_keep.ensures.nodes in
    let few = rw c.as_slice.ensures.list at c.if-not-can_keep.ensures.few in
    rw (
      c.in_ok-table.ensures.placed,
      c.into_vec-2.ensures.list,
      c.in_ok-learned.ensures.learned,
      c.as_slice-2.ensures.list,
      list,
      c.into_vec.ensures.list,
    ) (refl, core-tested c.args.saved safe c.known.ensures.below (slots refl) (nodes refl) (few refl))
