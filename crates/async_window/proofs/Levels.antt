-- A tree whose inner nodes have the lesser value of the two nodes below them, by the values of its nodes.
use Rattle.std.proofs.Common.{◌≡◌, ℕ, zero, suc, ◌+◌, ◌*◌, ◌^◌, ◌<◌, ◌≤◌, min, inl, inr, sym, subst, arith}
use Rattle.std.proofs.Math.Nat.{one-le-pow, pow-suc, pow-le-pow_right}
use Rattle.std.proofs.lemmas.Bool.{cases_lt}

-- each of the inner nodes
abbrev pub IsLesser : (ℕ → ℕ) → ℕ → Type 0
IsLesser value levels = (node : ℕ) → 1 ≤ node → node < 2 ^ levels → value node ≡ min (value (2 * node)) (value (2 * node + 1))

-- the leaves below a node that stands so many levels above them are those from node * 2 ^ rest to below (node + 1) * 2
-- ^ rest
pub record IsAbove (levels rest node : ℕ) : Type 0 where
  pub one : 1 ≤ node
  pub starts : 2 ^ levels ≤ node * 2 ^ rest
  pub ends : (node + 1) * 2 ^ rest ≤ 2 * 2 ^ levels

pub IsAbove-top : (levels : ℕ) → IsAbove levels levels 1
IsAbove-top levels = record { one = omega arith; starts = omega arith; ends = omega arith }

-- a node above the leaves is an inner node
pub is_inner : (levels rest node : ℕ) → IsAbove levels (suc rest) node → node < 2 ^ levels
is_inner levels rest node above = grind (arith, pow-suc, one-le-pow)

-- eleven levels have room for all identifiers
pub levels-low : (levels : ℕ) → levels ≤ 11 → 2 ^ levels ≤ 2048
levels-low levels low = pow-le-pow_right (omega arith) low

pub IsAbove-left : (levels rest node : ℕ) → IsAbove levels (suc rest) node → IsAbove levels rest (2 * node)
IsAbove-left levels rest node above =
    let twice : 2 ^ suc rest ≡ 2 ^ rest * 2 = pow-suc 2 rest in
    let wide : (node + 1) * (2 ^ rest * 2) ≤ 2 * 2 ^ levels = subst (λ n. (node + 1) * n ≤ 2 * 2 ^ levels) twice above.ends in
    grind arith

pub IsAbove-right : (levels rest node : ℕ) → IsAbove levels (suc rest) node → IsAbove levels rest (2 * node + 1)
IsAbove-right levels rest node above =
    let twice : 2 ^ suc rest ≡ 2 ^ rest * 2 = pow-suc 2 rest in
    let wide : (node + 1) * (2 ^ rest * 2) ≤ 2 * 2 ^ levels = subst (λ n. (node + 1) * n ≤ 2 * 2 ^ levels) twice above.ends in
    grind arith

-- on the way from the top to the first leaf with at most a value, so many levels above the leaves; no leaf on the left
-- has less than `sooner`
pub record IsOnTheWay (value : ℕ → ℕ) (levels at rest node sooner : ℕ) : Type 0 where
  pub above : IsAbove levels rest node
  pub here : value node ≤ at
  pub later : at < sooner
  pub before : (leaf : ℕ) → 2 ^ levels ≤ leaf → leaf < node * 2 ^ rest → sooner ≤ value leaf

pub IsOnTheWay-top : (value : ℕ → ℕ) (levels at sooner : ℕ) → value 1 ≤ at → at < sooner → IsOnTheWay value levels at levels 1 sooner
IsOnTheWay-top value levels at sooner here later = grind (arith, IsAbove-top)

module _ (value : ℕ → ℕ) (levels : ℕ) (lesser : IsLesser value levels) where
  -- no leaf below a node has less than the node
  pub least-below : (rest node leaf : ℕ) → IsAbove levels rest node → node * 2 ^ rest ≤ leaf → leaf < (node + 1) * 2 ^ rest
      → value node ≤ value leaf
  least-below zero node leaf above from to = grind arith
  least-below (suc rest) node leaf above from to =
      let twice : 2 ^ suc rest ≡ 2 ^ rest * 2 = pow-suc 2 rest in
      let after : node * (2 ^ rest * 2) ≤ leaf = subst (λ n. node * n ≤ leaf) twice from in
      let before : leaf < (node + 1) * (2 ^ rest * 2) = subst (λ n. leaf < (node + 1) * n) twice to in
      let here : value node ≡ min (value (2 * node)) (value (2 * node + 1)) = lesser node above.one (is_inner levels rest node above) in
      elim (cases_lt leaf ((2 * node + 1) * 2 ^ rest)) [
        | inl left ↦
            let below : value (2 * node) ≤ value leaf
            = least-below rest (2 * node) leaf (IsAbove-left levels rest node above) (omega arith) left in
            omega arith
        | inr right ↦
            let below : value (2 * node + 1) ≤ value leaf
            = least-below rest (2 * node + 1) leaf (IsAbove-right levels rest node above) right (omega arith) in
            omega arith
      ]

  -- some leaf below a node has its value
  pub least-some : (rest node at : ℕ) → IsAbove levels rest node → value node ≤ at
      → (leaf : ℕ) × (2 ^ levels ≤ leaf) × (leaf < 2 * 2 ^ levels) × (value leaf ≤ at)
  least-some zero node at above here = grind arith
  least-some (suc rest) node at above here =
      let lesser_here : value node ≡ min (value (2 * node)) (value (2 * node + 1)) = lesser node above.one (is_inner levels rest node above) in
      elim (cases_lt at (value (2 * node))) [
        | inl right ↦ least-some rest (2 * node + 1) at (IsAbove-right levels rest node above) (omega arith)
        | inr left ↦ least-some rest (2 * node) at (IsAbove-left levels rest node above) left
      ]

  -- all leaves, by the top
  pub least-top : (leaf : ℕ) → 2 ^ levels ≤ leaf → leaf < 2 * 2 ^ levels → value 1 ≤ value leaf
  least-top leaf from to = least-below levels 1 leaf (IsAbove-top levels) (omega arith) (omega arith)

  pub least-top_some : (at : ℕ) → value 1 ≤ at → (leaf : ℕ) × (2 ^ levels ≤ leaf) × (leaf < 2 * 2 ^ levels) × (value leaf ≤ at)
  least-top_some at here = least-some levels 1 at (IsAbove-top levels) here

  pub IsOnTheWay-below : (at rest node sooner next least : ℕ) → IsOnTheWay value levels at (suc rest) node sooner
      → (value (2 * node) ≤ at → (next ≡ 2 * node) × (least ≡ sooner))
      → (at < value (2 * node) → (next ≡ 2 * node + 1) × (least ≡ min sooner (value (2 * node)))) → IsOnTheWay value levels at rest next least
  IsOnTheWay-below at rest node sooner next least way left right =
      let twice : 2 ^ suc rest ≡ 2 ^ rest * 2 = pow-suc 2 rest in
      let lesser_here : value node ≡ min (value (2 * node)) (value (2 * node + 1)) = lesser node way.above.one (is_inner levels rest node way.above) in
      let here : value node ≤ at = way.here in
      elim (cases_lt at (value (2 * node))) [
        | inl greater ↦ subst (λ n. IsOnTheWay value levels at rest n least) (sym (right greater).0) (record {
          above = IsAbove-right levels rest node way.above;
          here = omega arith;
          later = let is = (right greater).1 in omega (arith, way.later);
          before = λ leaf from to. let is = (right greater).1 in elim (cases_lt leaf (node * 2 ^ suc rest)) [
            | inl old ↦ let high : sooner ≤ value leaf = way.before leaf from old in omega arith
            | inr new ↦
                let after : node * (2 ^ rest * 2) ≤ leaf = subst (λ n. node * n ≤ leaf) twice new in
                let below : value (2 * node) ≤ value leaf
                = least-below rest (2 * node) leaf (IsAbove-left levels rest node way.above) (omega arith) to in
                omega arith
          ];
        })
        | inr passes ↦ subst (λ n. IsOnTheWay value levels at rest n least) (sym (left passes).0) (record {
          above = IsAbove-left levels rest node way.above;
          here = passes;
          later = let is = (left passes).1 in omega (arith, way.later);
          before = λ leaf from to.
              let is : least ≡ sooner = (left passes).1 in
              let high : sooner ≤ value leaf = way.before leaf from (subst (λ n. leaf < node * n) (sym twice) (omega arith)) in
              omega arith;
        })
      ]
