-- The entries of the joint node are those of a list with number 0: they have the same instances, and slots.
use Rattle.std.proofs.Common.{◌≡◌, ℕ, ◌+◌, ◌<◌, ◌≤◌, ◌||◌, ◌==◌, Bool, true, cond, List, [], ◌∷◌, map, All, Option, None, refl, ap, ◌∙◌, arith}
use Rattle.std.specs.List.{cons_option, filter_map, slice_get}
use Rattle.std.specs.Option.{option_map}
use Rattle.std.proofs.lemmas.Bool.{eqb-true}
use Rattle.std.proofs.lemmas.List.Folds.{Any-from_list_any}
use Rattle.profile.specs.Limits.{first_identifier}
use Rattle.requirement_table.specs.declared.entries.Placed.{Placed}
use Rattle.requirement_table.specs.Instance.{Instance, instance_of}
use Rattle.requirement_table.specs.Table.{IsInRange, IsWellPlaced, instance_in, sendable}
use Rattle.node_model.specs.Node.{entries_of, is_own_slot, with_node}
use Rattle.node_model.proofs.Shared.{with_node-own, with_node-well_placed}
use Rattle.cycle_engine.specs.Joint.{joint_entries}

-- an instance of an entry of the joint node
abbrev pub joint_instance : Instance → Instance
joint_instance i = record i { placed = with_node 0 i.placed }

one-sends : (p : Placed) (b : Bool) (o : Option ℕ)
    → cond b (option_map (λ k. record { placed = with_node 0 p; number = k }) o) None
    ≡ option_map joint_instance (cond b (option_map (λ k. record { placed = p; number = k }) o) None)
one-sends p b o = grind arith

sendable-joint : (slot c : ℕ) (p : Placed) → sendable slot c (with_node 0 p) ≡ option_map joint_instance (sendable slot c p)
sendable-joint slot c p = one-sends p (p.entry.slot == slot) (instance_of p c)

cons-map : (o : Option Instance) (is : List Instance)
    → cons_option (option_map joint_instance o) (map joint_instance is) ≡ map joint_instance (cons_option o is)
cons-map o is = grind arith

all-send : (slot c : ℕ) (placed : List Placed)
    → filter_map (sendable slot c) (joint_entries placed) ≡ map joint_instance (filter_map (sendable slot c) placed)
all-send slot c [] = refl
all-send slot c (p ∷ ps) =
    ap (λ o. cons_option o (filter_map (sendable slot c) (joint_entries ps))) (sendable-joint slot c p)
    ∙ ap (cons_option (option_map joint_instance (sendable slot c p))) (all-send slot c ps)
    ∙ cons-map (sendable slot c p) (filter_map (sendable slot c) ps)

first-map : (is : List Instance) → slice_get (map joint_instance is) 0 ≡ option_map joint_instance (slice_get is 0)
first-map [] = refl
first-map (i ∷ is) = refl

pub instance_in-joint : (placed : List Placed) (slot c : ℕ) → instance_in (joint_entries placed) slot c ≡ option_map joint_instance (instance_in placed slot c)
instance_in-joint placed slot c = ap (λ is. slice_get is 0) (all-send slot c placed) ∙ first-map (filter_map (sendable slot c) placed)

-- a list that is well placed is so too with number 0
pub joint-well_placed : (placed : List Placed) → IsWellPlaced placed → IsWellPlaced (joint_entries placed)
joint-well_placed placed well = with_node-well_placed 0 placed well

-- all of them are those of number 0
pub joint-own : (placed : List Placed) → joint_entries placed ≡ entries_of 0 (joint_entries placed)
joint-own placed = with_node-own 0 placed

-- they have the slots of the list
pub slots-joint : (placed : List Placed) (id : ℕ) → is_own_slot (joint_entries placed) id ≡ is_own_slot placed id
slots-joint [] id = refl
slots-joint (p ∷ ps) id = ap (λ b. (first_identifier + p.entry.slot == id) || b) (slots-joint ps id)

module _ (number id : ℕ) where
  kept-slot : (b : Bool) (p : Placed) (ps : List Placed) → (is_own_slot (entries_of number ps) id ≡ true → is_own_slot ps id ≡ true)
      → is_own_slot (cond b (p ∷ entries_of number ps) (entries_of number ps)) id ≡ true → is_own_slot (p ∷ ps) id ≡ true
  kept-slot b p ps later is = grind arith

  -- a slot of one node is one of all
  pub own-of_all : (placed : List Placed) → is_own_slot (entries_of number placed) id ≡ true → is_own_slot placed id ≡ true
  own-of_all [] is = is
  own-of_all (p ∷ ps) is = kept-slot (p.entry.node == number) p ps (own-of_all ps) is

-- the identifier of an own slot is below those of requests
pub own-id : (placed : List Placed) (id : ℕ) → All IsInRange placed → is_own_slot placed id ≡ true → (0x100 ≤ id) × (id < 0x160)
own-id placed id range own =
    let any = Any-from_list_any (λ p. first_identifier + p.entry.slot == id) placed own in
    grind (arith, eqb-true)
