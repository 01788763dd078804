use Rattle.std.proofs.Common.{◌≡◌, ℕ, ◌<◌, None, take}
use Rattle.std.specs.Prelude.{slice_index_or}
use Rattle.node_model.specs.Node.{entries_of}
use Rattle.live_node.specs.Live.{origin_of}
use Rattle.live_node.proofs.known_bytes.origins_of.Given as goal

abbrev pub invariant-loop-p : goal.invariant-loop-p
invariant-loop-p l = record {
  noted : (slot : ℕ) → slot < 96
      → slice_index_or l.origins slot None ≡ origin_of (entries_of l.number (take l.p-index l.placed)) slot;
}
