-- The parts of the joint node as a list of nodes.
use Rattle.std.proofs.Common.{◌≡◌, ℕ, zero, suc, ◌+◌, ◌<◌, ◌≤◌, ◌==◌, cond, List, [], ◌∷◌, drop, length, map, filter, All, Contains, Option, None, Some, inl, inr, refl, sym, ap, ◌∙◌, subst, arith}
use Rattle.std.specs.Prelude.{IfSome, fold, nat_lt}
use Rattle.std.specs.Option.{option_map}
use Rattle.std.specs.List.{range_with_len}
use Rattle.std.proofs.lemmas.List.FromFn.{get_or-map-range_with_len, length-map-range_with_len}
use Rattle.std.proofs.lemmas.List.Elements.{All-contains, All-contains_itself, All-filter, All-head, All-map}
use Rattle.can_frame.specs.declared.data_frame.TimedFrame.{TimedFrame}
use Rattle.requirement_table.specs.declared.entries.Placed.{Placed}
use Rattle.requirement_table.specs.Table.{IsWellPlaced}
use Rattle.async_window.specs.declared.request.Owner.{Owner}
use Rattle.async_window.specs.Mailbox.{Mail, unsent_of, without_first}
use Rattle.async_window.specs.Owners.{AreOwners}
use Rattle.async_window.specs.Sorted.{mail_of}
use Rattle.trigger_kind.specs.Kind.{opening_identifier}
use Rattle.node_model.specs.Node.{NodeState, NodeView, after_hearing, entries_of, identifiers_of, is_own_slot}
use Rattle.cycle_engine.specs.Joint.{identifiers_in, joint_owners, known_by, own_opened, part_of, parts_of}
use Rattle.cycle_engine.specs.Nodes.{HaveSpare, KeepSpare, heard_by, learnt_by, states_of}
use Rattle.cycle_engine.proofs.Hearing.{kept_by, number_kept}
use Rattle.cycle_engine.proofs.JointHears.{part_with}
use Rattle.cycle_engine.proofs.JointMail.{taken-of}
use Rattle.cycle_engine.proofs.Lists.{Contains-cases, Contains-from_map, Contains-nil}

-- the states of the parts
pub states-parts : (owners : List Owner) (placed : List Placed) (spare : ℕ) (joint : NodeState) (numbers : List ℕ)
    → states_of (map (λ number. record { state = part_of owners placed joint number; spare = spare }) numbers) ≡ map (part_of owners placed joint) numbers
states-parts owners placed spare joint [] = refl
states-parts owners placed spare joint (number ∷ numbers) =
    ap (λ rest. part_of owners placed joint number ∷ rest) (states-parts owners placed spare joint numbers)

pub states-same : (owners : List Owner) (placed others : List Placed) (spare more count : ℕ) (joint after : NodeState) → placed ≡ others → joint ≡ after
    → states_of (parts_of owners placed spare count joint) ≡ states_of (parts_of owners others more count after)
states-same owners placed others spare more count joint after same still = grind (arith, states-parts)

-- Which of them there are

pub number-below : (k n x : ℕ) → Contains (range_with_len k n) x → x < k + n
number-below k zero x has = absurd (Contains-nil x has)
number-below k (suc n) x has = elim (Contains-cases k (range_with_len (k + 1) n) x has) [
  | inl same ↦ omega (arith, same)
  | inr later ↦ let below = number-below (k + 1) n x later in omega (arith, below)
]

-- a number comes from the number of one
pub at-number : (P : NodeState → Type 0) (f : ℕ → NodeState) (count : ℕ) → All P (map f (range_with_len 0 count)) → (n : ℕ) → n < count → P (f n)
at-number P f count all n within =
    subst P (get_or-map-range_with_len f 0 count n n (f n) within (omega arith))
    (all n (f n) (omega (arith, within, length-map-range_with_len f 0 count)))

pub all-numbers : {X : Type 0} (P : X → Type 0) (f : ℕ → X) (count : ℕ) → ((n : ℕ) → n < count → P (f n)) → All P (map f (range_with_len 0 count))
all-numbers P f count each = grind (arith, length-map-range_with_len, get_or-map-range_with_len)

pub numbers-of : (f : ℕ → NodeState) (numbers : List ℕ) → ((n : ℕ) → (f n).number ≡ n) → map (λ node. node.number) (map f numbers) ≡ numbers
numbers-of f [] each = refl
numbers-of f (n ∷ numbers) each = ap (λ m. m ∷ map (λ node. node.number) (map f numbers)) (each n) ∙ ap (λ rest. n ∷ rest) (numbers-of f numbers each)

-- How long a list they can learn

pub have-spare : (owners : List Owner) (placed : List Placed) (entries spare count : ℕ) (joint : NodeState) → entries ≤ spare
    → HaveSpare entries (parts_of owners placed spare count joint)
have-spare owners placed entries spare count joint enough =
    all-numbers (λ node. entries ≤ node.spare) (λ number. record { state = part_of owners placed joint number; spare = spare }) count (λ n within. enough)

pub spare-of : (owners : List Owner) (placed : List Placed) (entries spare count : ℕ) (joint : NodeState) → 1 ≤ count
    → HaveSpare entries (parts_of owners placed spare count joint) → entries ≤ spare
spare-of owners placed entries spare zero joint some have = absurd (omega arith)
spare-of owners placed entries spare (suc count) joint some have =
    All-head (λ (node : NodeView). entries ≤ node.spare) (record { state = part_of owners placed joint 0; spare = spare })
    (map (λ number. record { state = part_of owners placed joint number; spare = spare }) (range_with_len 1 count)) have

pub keep-spare : (owners : List Owner) (placed others : List Placed) (spare more count : ℕ) (joint after : NodeState) → 1 ≤ count → spare ≤ more
    → KeepSpare (parts_of owners placed spare count joint) (parts_of owners others more count after)
keep-spare owners placed others spare more count joint after some longer = grind (arith, have-spare, spare-of)

pub can-learn : (owners : List Owner) (placed : List Placed) (spare count : ℕ) (joint : NodeState) (learned : Option (List Placed)) → 1 ≤ count
    → IfSome learned (λ list. HaveSpare (length list) (parts_of owners placed spare count joint)) → IfSome learned (λ list. length list ≤ spare)
can-learn owners placed spare count joint learned some have = grind (arith, spare-of)

-- one less long, where it is the least of some
pub shorter : (learned : Option (List Placed)) (one other : ℕ) → one ≤ other → IfSome learned (λ list. length list ≤ one) → IfSome learned (λ list. length list ≤ other)
shorter learned one other less short = grind arith

-- What they learn and hear

pub learnt-parts : (learned : Option (List Placed)) (owners : List Owner) (placed : List Placed) (joint : NodeState) (numbers : List ℕ)
    → learnt_by learned (map (part_of owners placed joint) numbers)
    ≡ map (λ number. part_with owners (known_by learned placed) number joint (option_map (own_opened (entries_of number placed)) joint.opened)) numbers
learnt-parts None owners placed joint numbers = refl
learnt-parts (Some list) owners placed joint [] = refl
learnt-parts (Some list) owners placed joint (number ∷ numbers) =
    ap (λ rest. part_with owners list number joint (option_map (own_opened (entries_of number placed)) joint.opened) ∷ rest)
    (learnt-parts (Some list) owners placed joint numbers)

pub heard-parts : (frames : List TimedFrame) (f g : ℕ → NodeState) (numbers : List ℕ) → ((n : ℕ) → fold after_hearing (f n) frames ≡ g n)
    → heard_by frames (map f numbers) ≡ map g numbers
heard-parts frames f g [] each = refl
heard-parts frames f g (n ∷ numbers) each =
    ap (λ node. node ∷ heard_by frames (map f numbers)) (each n) ∙ ap (λ rest. g n ∷ rest) (heard-parts frames f g numbers each)

-- an owner's identifier is an asynchronous one
pub ids-above : (owners : List Owner) (number : ℕ) → AreOwners owners → All (λ id. 0x200 ≤ id) (identifiers_of number owners)
ids-above owners number are =
    All-map (λ id. 0x200 ≤ id) (λ owner. owner.id) (filter (λ owner. owner.node == number) owners)
    (All-filter (λ owner. owner.node == number) (λ owner. 0x200 ≤ owner.id) owners are.least)

-- The joint node stays that

pub number_kept_all : (frames : List TimedFrame) (node : NodeState) → (fold after_hearing node frames).number ≡ node.number
number_kept_all [] node = refl
number_kept_all (sent ∷ later) node = number_kept_all later (after_hearing node sent) ∙ number_kept node sent

module _ (taken : (id : ℕ) (mail : List Mail) (other : ℕ)
    → unsent_of (without_first id mail) other ≡ cond (other == id) (drop 1 (unsent_of mail id)) (unsent_of mail other))
    (ids : List ℕ) where
  mail_kept : (node : NodeState) (sent : TimedFrame) → node.mail ≡ mail_of ids node.mail → (after_hearing node sent).mail ≡ mail_of ids (after_hearing node sent).mail
  mail_kept node sent is =
      kept_by (λ n. n.mail ≡ mail_of ids n.mail) (sent.frame.identifier == opening_identifier node.layout.slots)
      (nat_lt sent.frame.identifier (opening_identifier node.layout.slots))
      (is_own_slot node.entries sent.frame.identifier) _ _ _ _ is is is
      (ap (without_first sent.frame.identifier) is ∙ sym (taken-of taken ids sent.frame.identifier node.mail))

  pub mail_kept_all : (frames : List TimedFrame) (node : NodeState) → node.mail ≡ mail_of ids node.mail
      → (fold after_hearing node frames).mail ≡ mail_of ids (fold after_hearing node frames).mail
  mail_kept_all [] node is = is
  mail_kept_all (sent ∷ later) node is = mail_kept_all later (after_hearing node sent) (mail_kept node sent is)

-- a list that is learnt is well placed
pub known-well_placed : (learned : Option (List Placed)) (placed : List Placed) → IfSome learned IsWellPlaced → IsWellPlaced placed → IsWellPlaced (known_by learned placed)
known-well_placed learned placed learnt known = grind arith

-- The identifiers of all

pub identifiers-joint : (owners : List Owner) → identifiers_of 0 (joint_owners owners) ≡ identifiers_in owners
identifiers-joint [] = refl
identifiers-joint (owner ∷ owners) = ap (λ ids. owner.id ∷ ids) (identifiers-joint owners)

-- an identifier of a node is that of an owner of its number
pub owner-of : (number id : ℕ) (owners : List Owner) → Contains (identifiers_of number owners) id
    → (owner : Owner) × Contains owners owner × (owner.id ≡ id)
owner-of number id owners has =
    let own = Contains-from_map (λ owner. owner.id) (filter (λ owner. owner.node == number) owners) id has in (
      own.0,
      All-contains (Contains owners) (filter (λ owner. owner.node == number) owners) own.0
          (All-filter (λ owner. owner.node == number) (Contains owners) owners (All-contains_itself owners)) own.1,
      own.2,
    )

-- The next cycle of all is that of the joint node

pub part-next : (owners : List Owner) (placed : List Placed) (spare count : ℕ) (joint : NodeState) (cycle : ℕ) → 1 ≤ count
    → All (λ node. node.next ≡ cycle) (states_of (parts_of owners placed spare count joint)) → joint.next ≡ cycle
part-next owners placed spare count joint cycle some all =
    at-number (λ node. node.next ≡ cycle) (part_of owners placed joint) count
    (subst (All (λ (node : NodeState). node.next ≡ cycle)) (states-parts owners placed spare joint (range_with_len 0 count)) all) 0 (omega (arith, some))

pub parts-next : (owners : List Owner) (placed : List Placed) (spare count : ℕ) (joint : NodeState) (cycle : ℕ) → joint.next ≡ cycle
    → All (λ node. node.next ≡ cycle) (states_of (parts_of owners placed spare count joint))
parts-next owners placed spare count joint cycle next =
    subst (All (λ (node : NodeState). node.next ≡ cycle)) (sym (states-parts owners placed spare joint (range_with_len 0 count)))
    (all-numbers (λ (node : NodeState). node.next ≡ cycle) (part_of owners placed joint) count (λ n within. next))
