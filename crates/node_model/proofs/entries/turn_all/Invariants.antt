use Rattle.std.proofs.Common.{◌≡◌, ℕ, List, slice_get, false, true}
use Rattle.std.specs.Prelude.{IsSomeAnd}
use Rattle.requirement_table.specs.declared.entries.Placed.{Placed}
use Rattle.bit_sets.specs.Sets.{has_bit}
use Rattle.node_model.specs.Kept.{AreReady, IsSendableIn}
use Rattle.node_model.proofs.entries.turn_all.Given as goal

-- of the slots that were looked at the instance is known
abbrev pub invariant-loop-slot : goal.invariant-loop-slot
invariant-loop-slot l = record {
  sendable : (slot : ℕ) → has_bit l.fn.set slot ≡ true → has_bit l.left slot ≡ false
      → IsSomeAnd (slice_get l.ready slot) (IsSendableIn l.cycle);
  ready : (entries : List Placed) → AreReady entries l.fn.ready → AreReady entries l.ready;
}

abbrev pub decreases-loop-slot : goal.decreases-loop-slot
decreases-loop-slot l = l.left
