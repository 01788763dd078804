-- A cycle that the joint node runs, as its parts hear it.
use Rattle.std.proofs.Common.{◌≡◌, ◌↔◌, ℕ, ◌+◌, ◌^◌, ◌<◌, ◌≤◌, ◌==◌, cond, List, [], ◌∷◌, ◌++◌, drop, map, Contains, Option, Some, refl, sym, ap, ◌∙◌, subst}
use Rattle.std.specs.Prelude.{IfSome, fold}
use Rattle.std.specs.Option.{option_map}
use Rattle.std.specs.List.{range_with_len}
use Rattle.can_frame.specs.DataFrame.{DataFrame}
use Rattle.can_frame.specs.declared.data_frame.TimedFrame.{TimedFrame}
use Rattle.cycle_layout.specs.Layout.{CycleLayout, IsLayout}
use Rattle.requirement_table.specs.declared.entries.Order.{Order}
use Rattle.requirement_table.specs.declared.entries.Placed.{Placed}
use Rattle.requirement_table.specs.Table.{IsWellPlaced}
use Rattle.requirement_table.specs.Instance.{bytes_of}
use Rattle.trigger_codec.specs.Bytes.{triggers_with}
use Rattle.async_window.specs.declared.request.Owner.{Owner}
use Rattle.async_window.specs.declared.request.Request.{Request}
use Rattle.async_window.specs.Mailbox.{Mail, mail_after, unsent_of, without_first}
use Rattle.async_window.specs.Waiting.{unsent_after}
use Rattle.node_model.specs.Node.{NodeState, Opened, after_hearing, entries_of}
use Rattle.cycle_engine.specs.Joint.{BeginsWithTriggers, IsJoint, identifiers_in, joint_entries, joint_owners, known_by, own_opened, part_of}
use Rattle.cycle_engine.specs.Nodes.{IsBefore, IsBus, heard_by, learnt_by, opening_of}
use Rattle.cycle_engine.specs.Offered.{offered_in}
use Rattle.cycle_engine.proofs.JointCycle.{alike, joint-before, parts-stand, same-offered}
use Rattle.cycle_engine.proofs.JointHears.{entries_kept_all, part-behind, part_with}
use Rattle.cycle_engine.proofs.Parts.{heard-parts, ids-above, known-well_placed, learnt-parts, mail_kept_all, number_kept_all}

-- the joint node that has learnt a list
abbrev pub joint_learnt : List Placed → NodeState → NodeState
joint_learnt known joint = record joint { entries = joint_entries known }

module _ (taken : (id : ℕ) (mail : List Mail) (other : ℕ)
    → unsent_of (without_first id mail) other ≡ cond (other == id) (drop 1 (unsent_of mail id)) (unsent_of mail other))
    (owners : List Owner) (placed : List Placed) (count : ℕ) (joint : NodeState) (is : IsJoint owners placed count joint)
    (learned : Option (List Placed)) (well : IfSome learned IsWellPlaced) where
  abbrev known : List Placed
  known = known_by learned placed

  abbrev open_for : ℕ → Option Opened
  open_for number = option_map (own_opened (entries_of number placed)) joint.opened

  -- it stays the joint node
  pub joint-kept : (frames : List TimedFrame) → IsJoint owners known count (fold after_hearing (joint_learnt known joint) frames)
  joint-kept frames = record {
    some = is.some;
    few = is.few;
    number = number_kept_all frames (joint_learnt known joint) ∙ is.number;
    entries = entries_kept_all frames (joint_learnt known joint);
    mail = mail_kept_all taken (identifiers_in owners) frames (joint_learnt known joint) is.mail;
    are_owners = is.are_owners;
    numbers = is.numbers;
    well_placed = known-well_placed learned placed well is.well_placed;
  }

  pub stays-by : (list : List Placed) (learnt after : NodeState) (frames : List TimedFrame) → list ≡ known → learnt ≡ joint_learnt list joint
      → after ≡ fold after_hearing learnt frames → IsJoint owners list count after
  stays-by list learnt after frames known_is learnt_is heard =
      subst (λ l. IsJoint owners l count after) (sym known_is)
      (subst (IsJoint owners known count)
      (sym (heard ∙ ap (λ node. fold after_hearing node frames) (learnt_is ∙ ap (λ l. joint_learnt l joint) known_is))) (joint-kept frames))

  module _ (opens : (node : NodeState) (l mask : ℕ) (sent : List TimedFrame)
      → IsLayout node.layout → l ≤ node.layout.window → mask < 2 ^ node.layout.slots
      → map (λ one. one.frame) sent ≡ triggers_with node.layout.slots node.next l mask
      → (fold after_hearing node sent).opened ≡ Some (record { cycle = node.next; width = l; mask = mask; heard = 0 }))
      (l mask : ℕ) (is_layout : IsLayout joint.layout) (small : l ≤ joint.layout.window) (few : mask < 2 ^ joint.layout.slots)
      (sent later : List TimedFrame) (are : map (λ one. one.frame) sent ≡ triggers_with joint.layout.slots joint.next l mask) where
    -- a part hears the cycle
    part-heard : (number : ℕ)
        → fold after_hearing (part_with owners known number joint (open_for number)) (sent ++ later)
        ≡ part_of owners known (fold after_hearing (joint_learnt known joint) (sent ++ later)) number
    part-heard number =
        let learnt = joint_learnt known joint in
        part-behind taken owners known number (known-well_placed learned placed well is.well_placed).in_range (ids-above owners number is.are_owners)
        sent later learnt (open_for number) joint.next l mask refl
        (opens (part_with owners known number learnt (open_for number)) l mask sent is_layout small few are)
        (opens learnt l mask sent is_layout small few are)

    pub parts-heard : (frames : List TimedFrame) → frames ≡ sent ++ later → (numbers : List ℕ)
        → map (part_of owners known (fold after_hearing (joint_learnt known joint) frames)) numbers
        ≡ heard_by frames (learnt_by learned (map (part_of owners placed joint) numbers))
    parts-heard frames split numbers =
        subst (λ fs. map (part_of owners known (fold after_hearing (joint_learnt known joint) fs)) numbers
        ≡ heard_by fs (learnt_by learned (map (part_of owners placed joint) numbers))) (sym split)
        (sym (heard-parts (sent ++ later) (λ number. part_with owners known number joint (open_for number))
        (part_of owners known (fold after_hearing (joint_learnt known joint) (sent ++ later))) numbers part-heard)
        ∙ ap (heard_by (sent ++ later)) (sym (learnt-parts learned owners placed joint numbers)))

-- What the joint node does, by what is said of it

pub record HasRun (owners : List Owner) (placed : List Placed) (count : ℕ) (learned : Option (List Placed)) (layout : CycleLayout) (order : Order)
    (joint : NodeState) (known : List Placed) (learnt after : NodeState) (frames : List TimedFrame) : Type 0 where
  pub is : IsJoint owners placed count joint
  pub well : IfSome learned IsWellPlaced
  pub is_layout : IsLayout layout
  pub same_layout : joint.layout ≡ layout
  pub next : joint.next ≡ order.cycle
  pub window : order.l ≤ layout.window
  pub slots : order.mask < 2 ^ layout.slots
  pub known_is : known ≡ known_by learned placed
  pub learnt_is : learnt ≡ joint_learnt known joint
  pub heard : after ≡ fold after_hearing learnt frames
  pub begins : BeginsWithTriggers layout order frames

module _ (taken : (id : ℕ) (mail : List Mail) (other : ℕ)
    → unsent_of (without_first id mail) other ≡ cond (other == id) (drop 1 (unsent_of mail id)) (unsent_of mail other))
    (owners : List Owner) (placed : List Placed) (count : ℕ) (learned : Option (List Placed)) (layout : CycleLayout) (order : Order)
    (joint : NodeState) (known : List Placed) (learnt after : NodeState) (frames : List TimedFrame)
    (run : HasRun owners placed count learned layout order joint known learnt after frames) where
  abbrev all : List Placed
  all = known_by learned placed

  learnt-all : learnt ≡ joint_learnt all joint
  learnt-all = run.learnt_is ∙ ap (λ list. joint_learnt list joint) run.known_is

  after-all : after ≡ fold after_hearing (joint_learnt all joint) frames
  after-all = run.heard ∙ ap (λ node. fold after_hearing node frames) learnt-all

  is-learnt : IsJoint owners known count learnt
  is-learnt = stays-by taken owners placed count joint run.is learned run.well known learnt learnt [] run.known_is run.learnt_is refl

  is-after : IsJoint owners known count after
  is-after = stays-by taken owners placed count joint run.is learned run.well known learnt after frames run.known_is run.learnt_is run.heard

  -- the parts have learnt the list and heard the frames
  pub all-heard : (opens : (node : NodeState) (l mask : ℕ) (sent : List TimedFrame)
      → IsLayout node.layout → l ≤ node.layout.window → mask < 2 ^ node.layout.slots
      → map (λ one. one.frame) sent ≡ triggers_with node.layout.slots node.next l mask
      → (fold after_hearing node sent).opened ≡ Some (record { cycle = node.next; width = l; mask = mask; heard = 0 }))
      → (numbers : List ℕ) → map (part_of owners known after) numbers ≡ heard_by frames (learnt_by learned (map (part_of owners placed joint) numbers))
  all-heard opens numbers =
      ap (λ list. map (part_of owners list after) numbers) run.known_is
      ∙ ap (λ node. map (part_of owners all node) numbers) after-all
      ∙ parts-heard taken owners placed count joint run.is learned run.well opens order.l order.mask
      (subst IsLayout (sym run.same_layout) run.is_layout)
      (subst (λ (l : CycleLayout). order.l ≤ l.window) (sym run.same_layout) run.window)
      (subst (λ (l : CycleLayout). order.mask < 2 ^ l.slots) (sym run.same_layout) run.slots)
      run.begins.sent run.begins.later
      (run.begins.are ∙ ap (λ (l : CycleLayout). triggers_with l.slots order.cycle order.l order.mask) (sym run.same_layout)
      ∙ ap (λ n. triggers_with joint.layout.slots n order.l order.mask) (sym run.next)) frames run.begins.split numbers

  -- the nodes before the cycle, as parts of the joint node that has learnt the list
  abbrev open_then : ℕ → Option Opened
  open_then number = option_map (own_opened (entries_of number placed)) joint.opened

  parts-then : (numbers : List ℕ) → learnt_by learned (map (part_of owners placed joint) numbers)
      ≡ map (λ number. part_with owners known number learnt (open_then number)) numbers
  parts-then numbers =
      learnt-parts learned owners placed joint numbers
      ∙ ap (λ node. map (λ number. part_with owners all number node (open_then number)) numbers) (sym learnt-all)
      ∙ ap (λ list. map (λ number. part_with owners list number learnt (open_then number)) numbers) (sym run.known_is)

  module _ (whose : List Owner) (requests : List Request) (others : List Placed) (past : List TimedFrame)
      (before : IsBefore layout whose requests others past order (learnt_by learned (map (part_of owners placed joint) (range_with_len 0 count)))) where
    before-then : IsBefore layout whose requests others past order (map (λ number. part_with owners known number learnt (open_then number)) (range_with_len 0 count))
    before-then = subst (IsBefore layout whose requests others past order) (parts-then (range_with_len 0 count)) before

    -- so the joint node stands before the cycle
    pub stands-before : IsBefore layout (joint_owners owners) requests (joint_entries known) past order (learnt ∷ [])
    stands-before = joint-before owners known count learnt open_then is-learnt layout whose requests others past order before-then

    -- what is offered on the bus is what is offered with the list of the joint node
    pub offered-alike : (sofar : List TimedFrame) (at : ℕ) (frame : DataFrame)
        → (offered_in bytes_of layout requests (opening_of order (joint_entries known)) sofar at frame) ↔ (offered_in bytes_of layout requests (opening_of order others) sofar at frame)
    offered-alike =
        same-offered layout requests order.mask order.cycle known others
        (alike owners known count learnt open_then is-learnt layout whose requests others past order before-then)

    -- and the parts stand behind it
    pub stand-behind : ((ids : List ℕ) (id : ℕ) → Contains ids id → unsent_of (mail_after ids requests (past ++ frames)) id ≡ unsent_after requests (past ++ frames) id)
        → IsBus layout (joint_owners owners) requests (joint_entries known) (past ++ frames) (order.cycle + 1) (after ∷ [])
        → IsBus layout whose requests others (past ++ frames) (order.cycle + 1) (map (part_of owners known after) (range_with_len 0 count))
    stand-behind among bus =
        parts-stand owners known count learnt open_then is-learnt layout whose requests others past order before-then after frames among
        is-after.number bus
