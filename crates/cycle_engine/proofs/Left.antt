-- How many requests of nodes are not sent: as many as of the joint node.
use Rattle.std.proofs.Common.{◌≡◌, ℕ, zero, suc, ◌+◌, ◌<◌, ◌≤◌, ◌==◌, Bool, cond, List, [], ◌∷◌, length, map, All, inl, inr, refl, arith}
use Rattle.std.proofs.lemmas.Grind.{common_steps}
use Rattle.std.specs.Prelude.{filter, sum_by}
use Rattle.std.specs.List.{range_with_len}
use Rattle.std.proofs.lemmas.Bool.{cases_eq, cond-false, cond-true, eq-eqb, ne_eqb}
use Rattle.std.proofs.lemmas.List.Elements.{All-head, All-tail}
use Rattle.std.proofs.lemmas.List.Sums.{sum_by-cons}
use Rattle.requirement_table.specs.declared.entries.Placed.{Placed}
use Rattle.async_window.specs.declared.request.Owner.{Owner}
use Rattle.async_window.specs.Mailbox.{Mail, left, unsent_of}
use Rattle.async_window.specs.Sorted.{mail_of}
use Rattle.node_model.specs.Node.{NodeState, identifiers_of}
use Rattle.cycle_engine.specs.Joint.{IsJoint, identifiers_in, parts_of}
use Rattle.cycle_engine.specs.Nodes.{left_in, states_of}
use Rattle.cycle_engine.proofs.Parts.{states-parts}

-- Sums

module _ {X : Type 0} where
  sum_by-same : (f g : X → ℕ) (xs : List X) → ((x : X) → f x ≡ g x) → sum_by f xs ≡ sum_by g xs
  sum_by-same f g xs same = grind (arith, sum_by-cons)

  sum_by-both : (f g : X → ℕ) (xs : List X) → sum_by (λ x. f x + g x) xs ≡ sum_by f xs + sum_by g xs
  sum_by-both f g [] = refl
  sum_by-both f g (x ∷ xs) =
      omega (arith, sum_by-cons (λ y. f y + g y) x xs, sum_by-cons f x xs, sum_by-cons g x xs, sum_by-both f g xs)

  sum_by-zero : (xs : List X) → sum_by (λ x. 0) xs ≡ 0
  sum_by-zero [] = refl
  sum_by-zero (x ∷ xs) = omega (arith, sum_by-cons (λ y. 0) x xs, sum_by-zero xs)

sum_by-map : {X Y : Type 0} (f : Y → ℕ) (g : X → Y) (xs : List X) → sum_by f (map g xs) ≡ sum_by (λ x. f (g x)) xs
sum_by-map f g xs = grind (arith, common_steps, sum_by-cons)

-- a number below others counts for none of them
before-all : (x v k n : ℕ) → x < k → sum_by (λ i. cond (x == i) v 0) (range_with_len k n) ≡ 0
before-all x v k zero below = refl
before-all x v k (suc n) below =
    let here : cond (x == k) v 0 ≡ 0 = cond-false (x == k) v 0 (ne_eqb x k (λ same. omega (arith, same, below))) in
    omega (arith, sum_by-cons (λ i. cond (x == i) v 0) k (range_with_len (k + 1) n), here, before-all x v (k + 1) n (omega (arith, below)))

-- and one of them counts for itself
one-of_all : (x v k n : ℕ) → k ≤ x → x < k + n → sum_by (λ i. cond (x == i) v 0) (range_with_len k n) ≡ v
one-of_all x v k zero from within = absurd (omega (arith, from, within))
one-of_all x v k (suc n) from within = elim (cases_eq x k) [
  | inl same ↦
      let here : cond (x == k) v 0 ≡ v = cond-true (x == k) v 0 (eq-eqb x k same) in
      omega (arith, sum_by-cons (λ i. cond (x == i) v 0) k (range_with_len (k + 1) n), here, before-all x v (k + 1) n (omega (arith, same)))
  | inr other ↦
      let here : cond (x == k) v 0 ≡ 0 = cond-false (x == k) v 0 (ne_eqb x k other) in
      omega (
        arith,
        sum_by-cons (λ i. cond (x == i) v 0) k (range_with_len (k + 1) n),
        here,
        one-of_all x v (k + 1) n (omega (arith, from, other)) (omega (arith, within)),
      )
]

-- The identifiers of all nodes are those of all owners

module _ (w : ℕ → ℕ) where
  abbrev of_node : List Owner → ℕ → ℕ
  of_node owners number = sum_by w (identifiers_of number owners)

  one-more : (b : Bool) (owner : Owner) (kept : List Owner)
      → sum_by w (map (λ o. o.id) (cond b (owner ∷ kept) kept)) ≡ cond b (w owner.id) 0 + sum_by w (map (λ o. o.id) kept)
  one-more b owner kept = grind (arith, sum_by-cons)

  by-node : (owners : List Owner) (count : ℕ) → All (λ owner. owner.node < count) owners
      → sum_by (of_node owners) (range_with_len 0 count) ≡ sum_by w (identifiers_in owners)
  by-node [] count below = sum_by-zero (range_with_len 0 count)
  by-node (owner ∷ owners) count below =
      let inside : owner.node < count = All-head (λ (o : Owner). o.node < count) owner owners below in
      let rest = by-node owners count (All-tail (λ (o : Owner). o.node < count) owner owners below) in
      let split = sum_by-same (of_node (owner ∷ owners)) (λ n. cond (owner.node == n) (w owner.id) 0 + of_node owners n) (range_with_len 0 count)
      (λ n. one-more (owner.node == n) owner (filter (λ o. o.node == n) owners)) in
      omega (
        arith,
        split,
        sum_by-both (λ n. cond (owner.node == n) (w owner.id) 0) (of_node owners) (range_with_len 0 count),
        one-of_all owner.node (w owner.id) 0 count (omega arith) (omega (arith, inside)),
        rest,
        sum_by-cons w owner.id (identifiers_in owners),
      )

left-of : (ids : List ℕ) (mail : List Mail) → left (mail_of ids mail) ≡ sum_by (λ id. length (unsent_of mail id)) ids
left-of ids mail = sum_by-map (λ box. length box.unsent) (λ id. record { identifier = id; unsent = unsent_of mail id }) ids

pub left-parts : (owners : List Owner) (placed : List Placed) (spare count : ℕ) (joint : NodeState) → IsJoint owners placed count joint
    → left joint.mail ≡ left_in (states_of (parts_of owners placed spare count joint))
left-parts owners placed spare count joint is = grind (arith, left-of, by-node, sum_by-same, sum_by-map, states-parts)
