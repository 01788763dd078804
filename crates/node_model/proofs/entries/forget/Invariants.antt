use Rattle.std.proofs.Common.{◌≡◌, ℕ, List, length, slice_get}
use Rattle.std.specs.Prelude.{IfSome}
use Rattle.requirement_table.specs.declared.entries.Placed.{Placed}
use Rattle.node_model.specs.Kept.{AreReady}
use Rattle.node_model.proofs.Ready.{IsForgotten}
use Rattle.node_model.proofs.entries.forget.Given as goal

abbrev pub invariant-loop-slot : goal.invariant-loop-slot
invariant-loop-slot l = record {
  forgotten : (before : List Placed) → AreReady before l.fn.ready
      → (slot : ℕ) → IfSome (slice_get l.ready slot) (IsForgotten l.slot slot);
  size : length l.ready ≡ 96;
}
