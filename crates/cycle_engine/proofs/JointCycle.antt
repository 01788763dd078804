-- What the joint node of a bus sends in a cycle is what is offered on the bus, and its parts stand for the bus.
use Rattle.std.proofs.Common.{◌≡◌, ◌≢◌, ◌↔◌, ℕ, ◌+◌, ◌<◌, ◌≤◌, true, List, [], ◌∷◌, ◌++◌, map, Contains, Option, Some, IsSome, is_some, refl, sym, ap, ◌∙◌, subst, arith}
use Rattle.std.proofs.lemmas.Grind.{common_steps}
use Rattle.std.specs.Option.{option_map}
use Rattle.std.specs.List.{range_with_len}
use Rattle.std.proofs.lemmas.List.Elements.{All-contains, All-head, All-map, All-weaker}
use Rattle.bit_sets.proofs.Shared.{sum_where-costs}
use Rattle.can_frame.specs.DataFrame.{DataFrame}
use Rattle.can_frame.specs.declared.data_frame.TimedFrame.{TimedFrame}
use Rattle.cycle_layout.specs.Layout.{CycleLayout}
use Rattle.requirement_table.specs.declared.entries.Order.{Order}
use Rattle.requirement_table.specs.declared.entries.Placed.{Placed}
use Rattle.requirement_table.specs.Instance.{Instance, bytes_of}
use Rattle.requirement_table.specs.Opening.{Opening, width_of}
use Rattle.bit_sets.specs.Sets.{has_bit, most_slots}
use Rattle.requirement_table.specs.Table.{instance_in}
use Rattle.async_window.specs.declared.request.Owner.{Owner}
use Rattle.async_window.specs.declared.request.Request.{Request}
use Rattle.async_window.specs.Mailbox.{mail_after, unsent_of}
use Rattle.async_window.specs.Owners.{AreOwners}
use Rattle.async_window.specs.Waiting.{unsent_after}
use Rattle.node_model.specs.Node.{NodeState, Opened, entries_of, identifiers_of}
use Rattle.node_model.specs.Offered.{bytes_sent}
use Rattle.node_model.specs.Own.{StandsOnBus}
use Rattle.node_model.proofs.Shared.{instance-of_all}
use Rattle.cycle_engine.specs.Joint.{IsJoint, identifiers_in, joint_entries, joint_owner, joint_owners, part_of}
use Rattle.cycle_engine.specs.Nodes.{IsBefore, IsBus, IsNumber, IsOwned}
use Rattle.cycle_engine.specs.Offered.{offered_in}
use Rattle.cycle_engine.proofs.Belongs.{Contains-identifiers, some_instance}
use Rattle.cycle_engine.proofs.JointEntries.{instance_in-joint, joint_instance, joint-own, joint-well_placed}
use Rattle.cycle_engine.proofs.JointMail.{mail-by, unsent-by}
use Rattle.cycle_engine.proofs.Lists.{AllPairs-map, Contains-from_map, Contains-map}
use Rattle.cycle_engine.proofs.One.{one_alone}
use Rattle.cycle_engine.proofs.JointHears.{part_with}
use Rattle.cycle_engine.proofs.Parts.{all-numbers, at-number, identifiers-joint, number-below, numbers-of, owner-of}

-- Two lists of which the flagged slots have instances that send the same

-- the instance of a flagged slot in two lists: in one of them it is that of the joint node
pub record SendAlike (mask cycle : ℕ) (placed other : List Placed) : Type 0 where
  pub each : (slot : ℕ) → slot < most_slots → has_bit mask slot ≡ true
      → (instance : Instance) × (instance_in placed slot cycle ≡ Some instance) × (instance_in other slot cycle ≡ Some instance)

module _ (layout : CycleLayout) (requests : List Request) (mask cycle : ℕ) (placed other : List Placed) (alike : SendAlike mask cycle placed other) where
  abbrev joint : Opening
  joint = record { cycle = cycle; mask = mask; placed = joint_entries placed }

  abbrev plain : Opening
  plain = record { cycle = cycle; mask = mask; placed = other }

  joint-has : (slot : ℕ) (i : Instance) → instance_in placed slot cycle ≡ Some i → instance_in (joint_entries placed) slot cycle ≡ Some (joint_instance i)
  joint-has slot i is = instance_in-joint placed slot cycle ∙ ap (option_map joint_instance) is

  same-bytes : (slot : ℕ) → slot < most_slots → has_bit mask slot ≡ true → bytes_sent bytes_of joint slot ≡ bytes_sent bytes_of plain slot
  same-bytes slot within flagged = grind (arith, alike, joint-has)

  pub same-width : width_of joint ≡ width_of plain
  same-width = grind (arith, sum_where-costs, alike, joint-has)

  -- the same is offered
  pub same-offered : (past : List TimedFrame) (at : ℕ) (frame : DataFrame)
      → (offered_in bytes_of layout requests joint past at frame) ↔ (offered_in bytes_of layout requests plain past at frame)
  same-offered past at frame = (to, from)
    where
      to : offered_in bytes_of layout requests joint past at frame → offered_in bytes_of layout requests plain past at frame
      to h0 = grind (arith, same-width, same-bytes)

      from : offered_in bytes_of layout requests plain past at frame → offered_in bytes_of layout requests joint past at frame
      from h0 = grind (arith, same-width, same-bytes)

-- owners of which each has number 0
pub joint-are_owners : (owners : List Owner) → AreOwners owners → AreOwners (joint_owners owners)
joint-are_owners owners are = record {
  distinct = AllPairs-map (λ one other. one.id ≢ other.id) joint_owner owners (λ i j d before within. are.distinct i j d before within);
  least = All-map (λ owner. 0x200 ≤ owner.id) joint_owner owners are.least;
  greatest = All-map (λ owner. owner.id ≤ 0x7EF) joint_owner owners are.greatest;
}

-- The nodes before a cycle, as parts of the joint node, for which any cycle may be open

module _ (owners : List Owner) (placed : List Placed) (count : ℕ) (joint : NodeState) (opened : ℕ → Option Opened) (is : IsJoint owners placed count joint)
    (layout : CycleLayout) (whose : List Owner) (requests : List Request) (others : List Placed) (past : List TimedFrame) (order : Order)
    (before : IsBefore layout whose requests others past order (map (λ number. part_with owners placed number joint (opened number)) (range_with_len 0 count))) where
  abbrev part : ℕ → NodeState
  part number = part_with owners placed number joint (opened number)

  stands-at : (number : ℕ) → number < count → StandsOnBus layout whose requests others past order.cycle (part number)
  stands-at = at-number (StandsOnBus layout whose requests others past order.cycle) part count before.bus.stand

  -- the identifiers of a node, and what is unsent of them
  mail-at : (number : ℕ) → number < count
      → (identifiers_of number owners ≡ identifiers_of number whose)
      × ((id : ℕ) → Contains (identifiers_of number owners) id → unsent_of joint.mail id ≡ unsent_after requests past id)
  mail-at number within =
      unsent-by (identifiers_of number owners) (identifiers_of number whose) joint.mail requests past (stands-at number within).own_mail

  unsent-all : (id : ℕ) → Contains (identifiers_in owners) id → unsent_of joint.mail id ≡ unsent_after requests past id
  unsent-all id has =
      let its = Contains-from_map (λ owner. owner.id) owners id has in
      let below = All-contains (λ owner. owner.node < count) owners its.0 is.numbers its.1 in
      (mail-at its.0.node below).1 id (subst (Contains (identifiers_of its.0.node owners)) its.2 (Contains-identifiers its.0.node owners its.0 its.1 refl))

  joint-stands : StandsOnBus layout (joint_owners owners) requests (joint_entries placed) past order.cycle joint
  joint-stands = grind (arith, stands-at, joint-own, mail-by, unsent-all, identifiers-joint)

  -- the number of a node is that of one of the parts
  is-below : (number : ℕ) → IsNumber (map part (range_with_len 0 count)) number → number < count
  is-below number has =
      let below = number-below 0 count number (subst (λ ns. Contains ns number) (numbers-of part (range_with_len 0 count) (λ n. refl)) has) in
      omega (arith, below)

  joint-owned : (request : Request) → IsOwned whose (map part (range_with_len 0 count)) request → IsOwned (joint_owners owners) (joint ∷ []) request
  joint-owned request owned =
      let number = owned.owner.node in
      let within = is-below number owned.node in
      let own : Contains (identifiers_of number owners) owned.owner.id =
      subst (λ ids. Contains ids owned.owner.id) (sym (mail-at number within).0) (Contains-identifiers number whose owned.owner owned.owns refl) in
      let its = owner-of number owned.owner.id owners own in
      record {
        owner = joint_owner its.0;
        owns = Contains-map joint_owner owners its.0 its.1;
        identifier = its.2 ∙ owned.identifier;
        node = (0, omega arith, is.number);
      }

  pub alike : SendAlike order.mask order.cycle placed others
  alike = record {
    each = λ slot within flagged.
        let known = before.fits.present slot within flagged in
        let found = Contains-from_map part (range_with_len 0 count) known.1 (known.0, known.2, known.3) in
        let number : ℕ = found.0 in
        let below : number < count = omega (arith, number-below 0 count number found.1) in
        let some : IsSome (instance_in (entries_of number placed) slot order.cycle) = subst (λ (node : NodeState). IsSome (instance_in node.entries slot order.cycle)) (sym found.2) known.4 in
        let instance = some_instance (instance_in (entries_of number placed) slot order.cycle) some in
        let own : instance_in (entries_of number others) slot order.cycle ≡ Some instance.0 =
        ap (λ entries. instance_in entries slot order.cycle) (sym (stands-at number below).own_entries) ∙ instance.1 in (grind (arith, instance-of_all));
  }

  -- the joint node stands before the cycle of the order
  pub joint-before : IsBefore layout (joint_owners owners) requests (joint_entries placed) past order (joint ∷ [])
  joint-before = record {
    bus = record {
      well_placed = joint-well_placed placed is.well_placed;
      are_owners = joint-are_owners owners is.are_owners;
      stand = one_alone (StandsOnBus layout (joint_owners owners) requests (joint_entries placed) past order.cycle) joint joint-stands;
      owned = All-weaker (IsOwned whose (map part (range_with_len 0 count))) (IsOwned (joint_owners owners) (joint ∷ [])) joint-owned requests before.bus.owned;
    };
    fits = grind (arith, same-width, alike, joint-has, is_some);
    before = before.before;
  }

  -- its parts stand behind it for the bus
  pub parts-stand : (after : NodeState) (frames : List TimedFrame)
      → ((ids : List ℕ) (id : ℕ) → Contains ids id → unsent_of (mail_after ids requests (past ++ frames)) id ≡ unsent_after requests (past ++ frames) id)
      → after.number ≡ 0
      → IsBus layout (joint_owners owners) requests (joint_entries placed) (past ++ frames) (order.cycle + 1) (after ∷ [])
      → IsBus layout whose requests others (past ++ frames) (order.cycle + 1) (map (part_of owners placed after) (range_with_len 0 count))
  parts-stand after frames among numbered bus =
      let Standing : NodeState → Type 0 = StandsOnBus layout (joint_owners owners) requests (joint_entries placed) (past ++ frames) (order.cycle + 1) in
      let stands : Standing after = All-head Standing after [] bus.stand in
      let mail : after.mail ≡ mail_after (identifiers_in owners) requests (past ++ frames) = grind (arith, common_steps, identifiers-joint) in
      record {
        well_placed = before.bus.well_placed;
        are_owners = before.bus.are_owners;
        stand = all-numbers (StandsOnBus layout whose requests others (past ++ frames) (order.cycle + 1)) (part_of owners placed after) count (λ number within. record {
          same_layout = stands.same_layout;
          own_entries = (stands-at number within).own_entries;
          own_mail = mail-by (identifiers_of number owners) after.mail requests (past ++ frames) (λ id has.
              let its = owner-of number id owners has in
              ap (λ m. unsent_of m id) mail
              ∙ among (identifiers_in owners) id (subst (Contains (identifiers_in owners)) its.2 (Contains-map (λ owner. owner.id) owners its.0 its.1)))
              ∙ ap (λ ids. mail_after ids requests (past ++ frames)) (mail-at number within).0;
          next_cycle = stands.next_cycle;
        });
        owned = grind (arith, numbers-of);
      }
