use Rattle.std.proofs.Common.{◌≡◌, ◌≢◌, ℕ, ◌<◌}
use Rattle.std.specs.Prelude.{slice_index_or}
use Rattle.async_window.specs.declared.request.Owner.{Owner}
use Rattle.fttcan_node_c.proofs.owners.is_new.Given as goal

abbrev pub invariant-loop-earlier : goal.invariant-loop-earlier
invariant-loop-earlier l = (k : ℕ) (d : Owner) → k < l.earlier
    → (slice_index_or l.owners k d).id ≢ (slice_index_or l.owners l.place d).id
