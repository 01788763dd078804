use Rattle.std.proofs.Common.{◌≡◌, ℕ, ◌<◌, ◌≤◌, None, length}
use Rattle.std.specs.Prelude.{if◌then◌else◌, slice_index_or}
use Rattle.live_node.specs.Live.{keeps_bytes}
use Rattle.live_node.proofs.known_bytes.keep_bytes.Given as goal

abbrev pub invariant-loop-slot : goal.invariant-loop-slot
invariant-loop-slot l = record {
  size : length l.values ≡ 96;
  done : (slot : ℕ) → slot < l.slot → slice_index_or l.values slot None
      ≡ (if keeps_bytes (slice_index_or l.before slot None) (slice_index_or l.now slot None)
      then slice_index_or l.fn.values slot None else None);
  left : (slot : ℕ) → l.slot ≤ slot → slice_index_or l.values slot None ≡ slice_index_or l.fn.values slot None;
}
