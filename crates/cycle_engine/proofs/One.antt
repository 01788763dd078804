-- A list of one node.
use Rattle.std.proofs.Common.{◌≡◌, ℕ, Bool, cond, List, [], ◌∷◌, All, Contains, Option, None, Some, is_some, sym, ap, arith}
use Rattle.std.specs.List.{cons_option}
use Rattle.std.proofs.lemmas.Bool.{eq-eqb}
use Rattle.std.proofs.lemmas.List.Elements.{All-cons, All-nil}
use Rattle.can_frame.specs.DataFrame.{DataFrame}
use Rattle.cycle_layout.specs.Layout.{CycleLayout}
use Rattle.node_model.specs.Node.{IsNode, NodeState, node_frame, node_offer}
use Rattle.node_model.specs.Window.{due_frame, is_due_slot}
use Rattle.cycle_engine.specs.Stations.{AreNodes, frame_by_nodes, offered_by_nodes}
use Rattle.cycle_engine.specs.SyncWindow.{due_by}

pub one_alone : {X : Type 0} (P : X → Type 0) (x : X) → P x → All P (x ∷ [])
one_alone P x holds = All-cons P x [] holds (All-nil P)

pub AreNodes-one : (layout : CycleLayout) (node : NodeState) → IsNode node → node.layout ≡ layout → AreNodes layout (node ∷ [])
AreNodes-one layout node is same = grind (arith, one_alone)

-- What it offers

only-offer : (o : Option ℕ) (id : ℕ) → Contains (cons_option o []) id → o ≡ Some id
only-offer o id has = grind arith

pub offers-only : (node : NodeState) (at id : ℕ) → Contains (offered_by_nodes (node ∷ []) at) id → node_offer node at ≡ Some id
offers-only node at id has = only-offer (node_offer node at) id has

pub frame-only : (node : NodeState) (at id : ℕ) → node_offer node at ≡ Some id → node_frame node at id ≡ frame_by_nodes (node ∷ []) at id
frame-only node at id offers = grind (arith, eq-eqb)

-- The slots that it is to send

some-due : (b : Bool) (frame : DataFrame) → is_some (cond b (Some frame) None) ≡ b
some-due b frame = grind arith

pub due-alone : (node : NodeState) (slot : ℕ) → is_due_slot node slot ≡ is_some (due_by (node ∷ []) slot)
due-alone node slot = sym (some-due (is_due_slot node slot) (due_frame node slot))

-- What it hears

abbrev first_state : NodeState → List NodeState → NodeState
first_state d [] = d
first_state d (node ∷ nodes) = node

pub state-heard : (one other : NodeState) → one ∷ [] ≡ other ∷ [] → one ≡ other
state-heard one other same = ap (first_state one) same
