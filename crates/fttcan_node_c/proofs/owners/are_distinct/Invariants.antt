use Rattle.std.proofs.Common.{◌≡◌, ◌≢◌, ℕ, ◌<◌}
use Rattle.std.specs.Prelude.{slice_index_or}
use Rattle.async_window.specs.declared.request.Owner.{Owner}
use Rattle.fttcan_node_c.proofs.owners.are_distinct.Given as goal

abbrev pub invariant-loop-place : goal.invariant-loop-place
invariant-loop-place l = (one other : ℕ) (d : Owner) → one < other → other < l.place
    → (slice_index_or l.owners one d).id ≢ (slice_index_or l.owners other d).id
