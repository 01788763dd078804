use Rattle.std.proofs.Common.{◌≡◌, ◌+◌, ◌/◌, ◌^◌, length, ap, arith}
use Rattle.std.proofs.lemmas.List.{get_or-set_other, get_or-set_same}
use Rattle.async_window.proofs.Trees.{IsTreeBut-leaf, half}
use Rattle.async_window.proofs.tournament.put.Goals as goal
use Rattle.async_window.proofs.tournament.put.Goals.{Start}

-- the leaf of the place
is-leaf : (c : Start) → length c.args.nodes.now / 2 + c.args.place ≡ 2 ^ c.args.levels + c.args.place
is-leaf c = ap (λ n. n + c.args.place) (half c.args.levels c.args.nodes.now c.requires.tree)

pub mend-requires-clause-leaf : goal.mend-requires-clause-leaf
mend-requires-clause-leaf c = omega (arith, half c.args.levels c.args.nodes.now c.requires.tree)

pub mend-requires-clause-within : goal.mend-requires-clause-within
mend-requires-clause-within c = omega (arith, c.requires.place, half c.args.levels c.args.nodes.now c.requires.tree)

pub mend-requires-clause-number : goal.mend-requires-clause-number
mend-requires-clause-number c = grind (arith, get_or-set_same)

pub mend-requires-clause-tree : goal.mend-requires-clause-tree
mend-requires-clause-tree c =
    IsTreeBut-leaf c.args.levels (length c.args.nodes.now / 2 + c.args.place) c.args.number c.args.nodes.now
    (omega (arith, half c.args.levels c.args.nodes.now c.requires.tree)) c.requires.tree

pub returns-clause-here : goal.returns-clause-here
returns-clause-here c = grind (arith, is-leaf, get_or-set_same)

pub returns-clause-others : goal.returns-clause-others
returns-clause-others c other apart = grind (arith, is-leaf, get_or-set_other)
