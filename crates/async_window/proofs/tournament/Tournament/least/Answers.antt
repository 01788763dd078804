use Rattle.std.proofs.Common.{◌≡◌, ℕ, ◌<◌, ◌≤◌, List, length, get_or, sym, subst, arith}
use Rattle.std.proofs.lemmas.List.{get_or_read}
use Rattle.async_window.proofs.Trees.{least-number, some-leaf, some-number}
use Rattle.async_window.proofs.tournament.Tournament.least.Goals as goal

pub index-requires : goal.index-requires
index-requires c = omega (arith, some-leaf c.self.inside.levels c.self.inside.nodes.items c.self.invariant, c.self.invariant.size)

pub returns : goal.returns
returns c =
    let nodes : List ℕ = c.self.inside.nodes.items in
    let top : c.index.result.now ≡ get_or nodes 1 0
    = get_or_read nodes 1 c.index.result.now
    (omega (arith, some-leaf c.self.inside.levels nodes c.self.invariant, c.self.invariant.size)) c.index.ensures 0 in
    record {
      least = grind (arith, least-number);
      some = subst (λ n. (bound : ℕ) → n ≤ bound → (place : ℕ) × (place < length c.args.self.now) × (get_or c.args.self.now place 0 ≤ bound))
          (sym top)
          (subst (λ (xs : List ℕ). (bound : ℕ) → get_or nodes 1 0 ≤ bound
          → (place : ℕ) × (place < length xs) × (get_or xs place 0 ≤ bound)) c.self.view_is
          (some-number c.self.inside.levels nodes c.self.invariant));
    }
