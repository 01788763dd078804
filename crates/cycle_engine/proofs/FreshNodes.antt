-- The nodes of a bus before cycle 0.
use Rattle.std.proofs.Common.{◌≡◌, ℕ, ◌<◌, ◌≤◌, List, [], length, map, get_or, All, Any, Contains, Some, sym, ap, ◌∙◌, subst, arith}
use Rattle.std.specs.List.{range_with_len, slice_get}
use Rattle.std.proofs.lemmas.List.FromFn.{get_or-map-range_with_len, length-map-range_with_len}
use Rattle.std.proofs.lemmas.List.Elements.{Contains-get_or}
use Rattle.std.proofs.lemmas.Option.{slice_get-get_or}
use Rattle.cycle_layout.specs.Layout.{CycleLayout}
use Rattle.requirement_table.specs.declared.entries.Placed.{Placed}
use Rattle.async_window.specs.declared.request.Owner.{Owner}
use Rattle.async_window.specs.declared.request.Request.{Request}
use Rattle.node_model.specs.Node.{NodeState, identifiers_of}
use Rattle.async_window.specs.Mailbox.{Mail, mail_after, unsent_of}
use Rattle.async_window.specs.Waiting.{unsent_after}
use Rattle.async_window.specs.Owners.{AreOwners}
use Rattle.node_model.specs.Own.{StandsOnBus}
use Rattle.node_model.specs.Node.{fresh_node}
use Rattle.cycle_engine.specs.Joint.{IsJoint, identifiers_in, joint_owners, part_of, parts_of}
use Rattle.cycle_engine.specs.Nodes.{IsBus, IsNumber, IsOwned, states_of}
use Rattle.cycle_engine.proofs.JointMail.{mail-by}
use Rattle.cycle_engine.proofs.Lists.{Contains-map}
use Rattle.cycle_engine.proofs.Parts.{identifiers-joint, owner-of, states-parts}

module _ (layout : CycleLayout) (owners : List Owner) (requests : List Request) (nodes : List NodeState) (count : ℕ) (long : length nodes ≡ count)
    (each : (k : ℕ) (d : NodeState) → k < count → get_or nodes k d ≡ fresh_node layout owners requests k) where
  stands : (k : ℕ) (d : NodeState) → k < count → StandsOnBus layout owners requests [] [] 0 (get_or nodes k d)
  stands k d within = grind arith

  numbered : (k : ℕ) (d : NodeState) → k < count → (get_or nodes k d).number ≡ k
  numbered k d within = ap (λ node. node.number) (each k d within)

  pub IsNumber-below : (number : ℕ) → number < count → IsNumber nodes number
  IsNumber-below number within =
      let d = fresh_node layout owners requests number in
      subst (Contains (map (λ node. node.number) nodes)) (numbered number d within)
      (Contains-map (λ node. node.number) nodes (get_or nodes number d) (Contains-get_or nodes number d (omega (arith, within, long))))

  IsOwned-any : All (λ owner. owner.node < count) owners → (request : Request) → Any (λ owner. owner.id ≡ request.frame.identifier) owners → IsOwned owners nodes request
  IsOwned-any below request h1 = grind (arith, IsNumber-below)

  pub IsBus-fresh : AreOwners owners → All (λ owner. owner.node < count) owners → All (λ request. Any (λ owner. owner.id ≡ request.frame.identifier) owners) requests
      → IsBus layout owners requests [] [] 0 nodes
  IsBus-fresh are_owners below owned = grind (arith, stands, IsOwned-any)

  pub fresh-at : (number : ℕ) → number < count → slice_get nodes number ≡ Some (fresh_node layout owners requests number)
  fresh-at number within =
      let d = fresh_node layout owners requests number in
      slice_get-get_or nodes number d (omega (arith, within, long)) ∙ ap (λ node. Some node) (each number d within)

-- The parts of a joint node before cycle 0

module _ (owners : List Owner) (requests : List Request)
    (among : (ids : List ℕ) (id : ℕ) → Contains ids id → unsent_of (mail_after ids requests []) id ≡ unsent_after requests [] id) where
  abbrev all_mail : List Mail
  all_mail = mail_after (identifiers_of 0 (joint_owners owners)) requests []

  fresh-unsent : (id : ℕ) → Contains (identifiers_in owners) id → unsent_of all_mail id ≡ unsent_after requests [] id
  fresh-unsent id has = among (identifiers_of 0 (joint_owners owners)) id (subst (λ ids. Contains ids id) (sym (identifiers-joint owners)) has)

  pub fresh-part : (layout : CycleLayout) (number : ℕ)
      → part_of owners [] (fresh_node layout (joint_owners owners) requests 0) number ≡ fresh_node layout owners requests number
  fresh-part layout number =
      ap (λ mail. record (fresh_node layout owners requests number) { mail = mail })
      (mail-by (identifiers_of number owners) all_mail requests [] (λ id has.
      let its = owner-of number id owners has in
      fresh-unsent id (subst (Contains (identifiers_in owners)) its.2 (Contains-map (λ owner. owner.id) owners its.0 its.1))))

  pub fresh-joint : (layout : CycleLayout) (count : ℕ) → 1 ≤ count → count ≤ 30 → AreOwners owners → All (λ owner. owner.node < count) owners
      → IsJoint owners [] count (fresh_node layout (joint_owners owners) requests 0)
  fresh-joint layout count some few are below = grind (arith, identifiers-joint, mail-by, fresh-unsent)

  pub fresh-each : (layout : CycleLayout) (spare count : ℕ) (joint : NodeState) → joint ≡ fresh_node layout (joint_owners owners) requests 0
      → (k : ℕ) (d : NodeState) → k < count → get_or (states_of (parts_of owners [] spare count joint)) k d ≡ fresh_node layout owners requests k
  fresh-each layout spare count joint same k d within =
      ap (λ nodes. get_or nodes k d) (states-parts owners [] spare joint (range_with_len 0 count))
      ∙ get_or-map-range_with_len (part_of owners [] joint) 0 count k k d within (omega arith)
      ∙ ap (λ j. part_of owners [] j k) same ∙ fresh-part layout k

  pub made-each : (layout : CycleLayout) (spare count : ℕ) (kept : List Owner) (placed : List Placed) (joint : NodeState) → kept ≡ owners → placed ≡ []
      → joint ≡ fresh_node layout (joint_owners owners) requests 0
      → (k : ℕ) (d : NodeState) → k < count → get_or (states_of (parts_of kept placed spare count joint)) k d ≡ fresh_node layout owners requests k
  made-each layout spare count kept placed joint same none is k d within =
      ap (λ os. get_or (states_of (parts_of os placed spare count joint)) k d) same
      ∙ ap (λ ps. get_or (states_of (parts_of owners ps spare count joint)) k d) none
      ∙ fresh-each layout spare count joint is k d within

  pub made-joint : (layout : CycleLayout) (count : ℕ) (kept : List Owner) (placed : List Placed) (joint : NodeState) → kept ≡ owners → placed ≡ []
      → joint ≡ fresh_node layout (joint_owners owners) requests 0 → 1 ≤ count → count ≤ 30 → AreOwners owners → All (λ owner. owner.node < count) owners
      → IsJoint kept placed count joint
  made-joint layout count kept placed joint same none is some few are below =
      subst (λ os. IsJoint os placed count joint) (sym same)
      (subst (λ ps. IsJoint owners ps count joint) (sym none)
      (subst (IsJoint owners [] count) (sym is) (fresh-joint layout count some few are below)))

pub made-count : (owners : List Owner) (placed : List Placed) (spare count : ℕ) (joint : NodeState) → length (states_of (parts_of owners placed spare count joint)) ≡ count
made-count owners placed spare count joint = grind (arith, states-parts, length-map-range_with_len)
