use Rattle.std.proofs.Common.{◌+◌, [], ◌∷◌, arith}
use Rattle.nodes_on_bus.specs.Duties.{keeps_guard}
use Rattle.nodes_on_bus.proofs.Driven.{guarded, run}
use Rattle.nodes_on_bus.proofs.Kept.{here, one-distinct, one-leaves, window-behind}
use Rattle.nodes_on_bus.proofs.laws.driven_cycles_are_kept.Goals as goal

pub returns : goal.returns
returns c = record {
  kept = λ reserve late silent sends layout opening senders loads outages trace known room whole fits driven begun within.
      let leaves = one-leaves reserve layout opening room fits in
      c.cycles_are_kept.ensures.kept reserve late silent sends layout (keeps_guard reserve late layout) (opening ∷ []) (opening.cycle + 1) outages trace opening
      known room whole (guarded reserve late layout) (one-distinct opening)
      (run reserve late silent sends layout (opening ∷ []) senders loads outages _ trace leaves driven)
      (here opening) (omega arith) fits
      (c.cycles_are_kept.ensures.clean reserve late silent layout outages trace opening (window-behind reserve late layout opening room fits)
      (λ k d inside before. absurd (let at = begun k d inside in omega (arith, at, before))) within);
}
