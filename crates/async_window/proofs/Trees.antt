-- The nodes of a tree of numbers: what a change of a node or of a leaf leaves, and what the tree says of its numbers.
use Rattle.std.proofs.Common.{◌≡◌, ◌≢◌, ℕ, suc, ◌+◌, ◌*◌, ◌-◌, ◌/◌, ◌^◌, ◌<◌, ◌≤◌, min, List, length, get_or, set, drop, inl, inr, sym, ◌∙◌, subst, arith}
use Rattle.std.proofs.Math.Nat.{one-le-pow, pow-suc, pow-le-pow_right}
use Rattle.std.proofs.lemmas.Bool.{cases_eq}
use Rattle.std.proofs.lemmas.List.{get_or-drop, get_or-set_other, get_or-set_same, length-drop, length-set}
use Rattle.async_window.specs.Tournament.{never, HasLesser, IsTreeBut, IsTree}
use Rattle.async_window.proofs.Levels.{IsAbove, IsLesser, IsOnTheWay, is_inner, least-top, least-top_some, levels-low}

-- a number is written over a node that stands apart from another one and from the two below that one
HasLesser-set : (nodes : List ℕ) (place number node : ℕ) → node ≢ place → 2 * node ≢ place → 2 * node + 1 ≢ place → HasLesser nodes node
    → HasLesser (set nodes place number) node
HasLesser-set nodes place number node apart left right has = grind (arith, get_or-set_other)

-- the lesser number of the two below it is written over an inner node
HasLesser-set_lesser : (nodes : List ℕ) (node lesser : ℕ) → 1 ≤ node → node < length nodes
    → lesser ≡ min (get_or nodes (2 * node) 0) (get_or nodes (2 * node + 1) 0) → HasLesser (set nodes node lesser) node
HasLesser-set_lesser nodes node lesser one within is = grind (arith, get_or-set_same, get_or-set_other)

-- the node of the gap gets its number: what is left open is the node above it
IsTreeBut-mended : (levels node lesser : ℕ) (nodes : List ℕ) → 1 ≤ node → node < length nodes
    → lesser ≡ min (get_or nodes (2 * node) 0) (get_or nodes (2 * node + 1) 0) → IsTreeBut node levels nodes
    → IsTreeBut (node / 2) levels (set nodes node lesser)
IsTreeBut-mended levels node lesser nodes one within is has = record {
  size = length-set nodes node lesser ∙ has.size;
  low = has.low;
  lesser = λ other from to apart. elim (cases_eq other node) [
    | inl same ↦ subst (λ n. HasLesser (set nodes node lesser) n) (sym same) (HasLesser-set_lesser nodes node lesser one within is)
    | inr elsewhere ↦ HasLesser-set nodes node lesser other elsewhere (λ same. absurd (apart (omega arith)))
        (λ same. absurd (apart (omega arith))) (has.lesser other from to elsewhere)
  ];
}

-- the number of a leaf is changed
pub IsTreeBut-leaf : (levels leaf number : ℕ) (nodes : List ℕ) → 2 ^ levels ≤ leaf → IsTree levels nodes
    → IsTreeBut (leaf / 2) levels (set nodes leaf number)
IsTreeBut-leaf levels leaf number nodes low has = record {
  size = length-set nodes leaf number ∙ has.size;
  low = has.low;
  lesser = λ node from to apart.
      HasLesser-set nodes leaf number node (λ same. absurd (omega arith)) (λ same. absurd (apart (omega arith)))
      (λ same. absurd (apart (omega arith))) (has.lesser node from to (λ same. absurd (omega arith)));
}

-- on the way from a changed leaf to the top: what is left open is the node above this one, whose number is `least`
pub record IsMendedTo (levels rest node least : ℕ) (old nodes : List ℕ) : Type 0 where
  pub from : 2 ^ rest ≤ node
  pub to : node < 2 * 2 ^ rest
  pub number : get_or nodes node 0 ≡ least
  pub tree : IsTreeBut (node / 2) levels nodes
  pub leaves : (other : ℕ) → 2 ^ levels ≤ other → get_or nodes other 0 ≡ get_or old other 0

pub IsMendedTo-leaf : (levels leaf number : ℕ) (nodes : List ℕ) → 2 ^ levels ≤ leaf → leaf < 2 * 2 ^ levels
    → get_or nodes leaf 0 ≡ number → IsTreeBut (leaf / 2) levels nodes → IsMendedTo levels levels leaf number nodes nodes
IsMendedTo-leaf levels leaf number nodes from to is tree = grind arith

module _ (levels rest node least : ℕ) (old nodes : List ℕ) (has : IsMendedTo levels (suc rest) node least old nodes) (within : suc rest ≤ levels) where
  pub mended-inner : (1 ≤ node / 2) × (2 * (node / 2) + 1 < length nodes) × (node / 2 < 2 ^ levels) × (length nodes ≤ 4096)
  mended-inner = grind (arith, one-le-pow, pow-suc, pow-le-pow_right, levels-low)

  pub IsMendedTo-above : (beside lesser : ℕ) → beside ≡ get_or nodes (4 * (node / 2) + 1 - node) 0 → lesser ≡ min least beside
      → IsMendedTo levels rest (node / 2) lesser old (set nodes (node / 2) lesser)
  IsMendedTo-above beside lesser at is =
      grind (arith, one-le-pow, pow-suc, get_or-set_same, mended-inner, IsTreeBut-mended, get_or-set_other)

  pub IsTree-above : (beside lesser : ℕ) → beside ≡ get_or nodes (4 * (node / 2) + 1 - node) 0 → lesser ≡ min least beside
      → get_or nodes (node / 2) 0 ≡ lesser → IsTree levels nodes
  IsTree-above beside lesser at is same = grind arith

pub IsMendedTo-top : (levels node least : ℕ) (old nodes : List ℕ) → IsMendedTo levels 0 node least old nodes → IsTree levels nodes
IsMendedTo-top levels node least old nodes has = grind arith

-- what a tree says of its numbers
module _ (levels : ℕ) (nodes : List ℕ) (known : IsTree levels nodes) where
  pub tree-lesser : IsLesser (λ node. get_or nodes node 0) levels
  tree-lesser node from to = known.lesser node from to (λ same. absurd (omega arith))

  pub few-nodes : length nodes ≤ 4096
  few-nodes = omega (arith, known.size, levels-low levels known.low)

  pub some-leaf : 1 ≤ 2 ^ levels
  some-leaf = one-le-pow levels 2 (omega arith)

  pub half : length nodes / 2 ≡ 2 ^ levels
  half = omega (arith, known.size)

  -- the numbers are the leaves
  pub numbers-length : length (drop (2 ^ levels) nodes) ≡ 2 ^ levels
  numbers-length = omega (arith, known.size, length-drop (2 ^ levels) nodes)

  pub numbers-at : (place : ℕ) → get_or (drop (2 ^ levels) nodes) place 0 ≡ get_or nodes (2 ^ levels + place) 0
  numbers-at place = get_or-drop (2 ^ levels) nodes place 0

  pub least-number : (place : ℕ) → place < length (drop (2 ^ levels) nodes) → get_or nodes 1 0 ≤ get_or (drop (2 ^ levels) nodes) place 0
  least-number place within =
      let low : get_or nodes 1 0 ≤ get_or nodes (2 ^ levels + place) 0
      = least-top (λ node. get_or nodes node 0) levels tree-lesser (2 ^ levels + place) (omega arith) (omega (arith, numbers-length)) in
      subst (λ n. get_or nodes 1 0 ≤ n) (sym (numbers-at place)) low

  pub some-number : (bound : ℕ) → get_or nodes 1 0 ≤ bound
      → (place : ℕ) × (place < length (drop (2 ^ levels) nodes)) × (get_or (drop (2 ^ levels) nodes) place 0 ≤ bound)
  some-number bound top =
      let found = least-top_some (λ node. get_or nodes node 0) levels tree-lesser bound top in
      let place : ℕ = found.0 - 2 ^ levels in
      let is : found.0 ≡ 2 ^ levels + place = omega (arith, found.1) in (
        place,
        omega (arith, found.2, is, numbers-length),
        subst (λ n. n ≤ bound) (sym (numbers-at place)) (subst (λ n. get_or nodes n 0 ≤ bound) is found.3),
      )

  -- a node above the leaves has two below it
  pub two-below : (rest node : ℕ) → IsAbove levels (suc rest) node → 2 * node + 1 < length nodes
  two-below rest node above = omega (arith, is_inner levels rest node above, known.size)

  -- where the way to the first leaf ends
  pub record IsFirstLeaf (bound place sooner : ℕ) : Type 0 where
    pub within : place < 2 ^ levels
    pub here : get_or nodes (2 ^ levels + place) 0 ≤ bound
    pub later : bound < sooner
    pub before : (other : ℕ) → other < place → sooner ≤ get_or nodes (2 ^ levels + other) 0

  pub first-leaf_half : (bound node sooner count : ℕ) → count ≡ 2 ^ levels → IsOnTheWay (λ n. get_or nodes n 0) levels bound 0 node sooner
      → IsFirstLeaf bound (node - count) sooner
  first-leaf_half bound node sooner count is way = grind arith

-- a tree in which each number is the same
pub IsTree-never : (levels : ℕ) (nodes : List ℕ) → levels ≤ 11 → length nodes ≡ 2 * 2 ^ levels
    → ((node : ℕ) → node < 2 * 2 ^ levels → get_or nodes node 0 ≡ never) → IsTree levels nodes
IsTree-never levels nodes low size none = grind arith

pub numbers-never : (levels : ℕ) (nodes : List ℕ) → length nodes ≡ 2 * 2 ^ levels
    → ((node : ℕ) → node < 2 * 2 ^ levels → get_or nodes node 0 ≡ never) → (place : ℕ) → place < length (drop (2 ^ levels) nodes)
    → get_or (drop (2 ^ levels) nodes) place 0 ≡ never
numbers-never levels nodes size none place within = grind (arith, get_or-drop, length-drop)
