-- The nodes of a bus stay what they are, and offer distinct identifiers.
use Rattle.std.proofs.Common.{◌≡◌, ◌≢◌, ℕ, ◌^◌, ◌<◌, ◌≤◌, Bool, true, false, cond, List, [], ◌∷◌, ◌++◌, map, get_or, All, AllPairs, Contains, Some, inl, inr, refl, sym, ap, ◌∙◌, subst, arith}
use Rattle.std.proofs.lemmas.Grind.{common_steps}
use Rattle.std.specs.Prelude.{◌==◌, nat_le}
use Rattle.std.proofs.lemmas.Bool.{cases_lt, eq-eqb}
use Rattle.std.proofs.lemmas.List.{length-map}
use Rattle.std.proofs.lemmas.List.Elements.{All-head, All-map, All-tail}
use Rattle.arbitration.specs.Arbitration.{AreDistinct}
use Rattle.can_frame.specs.declared.data_frame.TimedFrame.{TimedFrame}
use Rattle.cycle_layout.specs.Layout.{CycleLayout}
use Rattle.bus_line.specs.Stations.{told}
use Rattle.requirement_table.specs.declared.entries.Placed.{Placed}
use Rattle.requirement_table.specs.Table.{IsWellPlaced}
use Rattle.trigger_kind.specs.Kind.{greatest_trigger, opening_identifier}
use Rattle.node_model.specs.Node.{IsNode, NodeState, after_hearing, learnt, node_offer}
use Rattle.trigger_codec.specs.Bytes.{triggers_with}
use Rattle.node_model.specs.Own.{AreApart}
use Rattle.node_model.proofs.Shared.{apart-hearing, apart-learning, node-hearing, node-learning, offers-apart}
use Rattle.cycle_engine.specs.Stations.{AreDueTriggers, AreNodes, AreStations, DueTrigger, Stationed, all_hear, cycle_line, due_from, offered_by_nodes, offered_trigger, triggers_after}
use Rattle.cycle_engine.specs.SyncWindow.{nodes_alone}
use Rattle.cycle_engine.proofs.Lists.{AllPairs-filter_map, AllPairs-map, AllPairs-tail}
use Rattle.cycle_engine.proofs.Hearing.{layout_kept, next_kept, number_kept}
use Rattle.cycle_engine.proofs.Announced.{of_some, offers_range}
use Rattle.cycle_engine.proofs.TriggerFrames.{low_ids, opens_last}
use Rattle.trigger_kind.proofs.Shared.{above-opens_not}

-- nodes that change, and keep their numbers and layouts
AreNodes-changed : (layout : CycleLayout) (nodes : List NodeState) (f : NodeState → NodeState) → AreNodes layout nodes → All (λ node. IsNode node → IsNode (f node)) nodes
    → ((node : NodeState) → (f node).layout ≡ node.layout) → ((node : NodeState) → (f node).number ≡ node.number)
    → ((one other : NodeState) → one.number ≢ other.number → AreApart one other → AreApart (f one) (f other)) → AreNodes layout (map f nodes)
AreNodes-changed layout nodes f before are layouts numbers apart = record {
  few = subst (λ n. n ≤ 30) (sym (length-map nodes f)) before.few;
  are = All-map IsNode f nodes (λ k d within. are k d within (before.are k d within));
  layouts = All-map (λ node. node.layout ≡ layout) f nodes (λ k d within. layouts (get_or nodes k d) ∙ before.layouts k d within);
  numbers = AllPairs-map (λ one other. one.number ≢ other.number) f nodes (λ i j d first within same. grind arith);
  apart = AllPairs-map AreApart f nodes (λ i j d first within. apart (get_or nodes i d) (get_or nodes j d) (before.numbers i j d first within) (before.apart i j d first within));
}

pub AreNodes-learning : (layout : CycleLayout) (nodes : List NodeState) (placed : List Placed) → IsWellPlaced placed
    → AreNodes layout nodes → AreNodes layout (map (learnt placed) nodes)
AreNodes-learning layout nodes placed well before =
    AreNodes-changed layout nodes (learnt placed) before (λ k d _. node-learning placed (get_or nodes k d) well) (λ node. refl) (λ node. refl)
    (λ one other differ. apart-learning placed one other differ well)

pub AreNodes-hearing : (layout : CycleLayout) (nodes : List NodeState) (sent : TimedFrame)
    → All (λ node. sent.frame.identifier ≡ opening_identifier node.layout.slots → node.next < 2 ^ 42) nodes
    → AreNodes layout nodes → AreNodes layout (all_hear nodes sent)
AreNodes-hearing layout nodes sent next before =
    AreNodes-changed layout nodes (λ node. after_hearing node sent) before (λ k d within. node-hearing (get_or nodes k d) sent (next k d within))
    (λ node. layout_kept node sent) (λ node. number_kept node sent) (λ one other _. apart-hearing one other sent sent)

-- the same behind frames that are no trigger frames
pub AreNodes-told : (layout : CycleLayout) (frames : List TimedFrame) (before : Stationed)
    → All (λ sent. greatest_trigger < sent.frame.identifier) frames → AreNodes layout before.nodes → AreNodes layout (told cycle_line before frames).nodes
AreNodes-told layout [] before none are = are
AreNodes-told layout (sent ∷ later) before none are =
    let other = All-head (λ one. greatest_trigger < one.frame.identifier) sent later none in
    AreNodes-told layout later (cycle_line.next before sent) (All-tail (λ one. greatest_trigger < one.frame.identifier) sent later none)
    (AreNodes-hearing layout before.nodes sent
    (λ k d _ opens. absurd (above-opens_not (get_or before.nodes k d).layout.slots sent.frame.identifier other opens)) are)

-- no trigger frame is left
pub AreStations-alone : (layout : CycleLayout) (nodes : List NodeState) → AreNodes layout nodes → AreStations (nodes_alone layout nodes)
AreStations-alone layout nodes are = grind arith

pub is_first : (triggers : List DueTrigger) (nodes : List NodeState) (at id : ℕ) → All IsNode nodes
    → Contains (offered_trigger triggers at ++ offered_by_nodes nodes at) id → id ≤ greatest_trigger
    → (due : DueTrigger) × (later : List DueTrigger) × (triggers ≡ due ∷ later) × (due.frame.identifier ≡ id)
is_first triggers nodes at id are has low = grind (arith, offers_range)

trigger_alone : (b : Bool) (id : ℕ) (back : List ℕ) → id ≤ greatest_trigger → All (λ n. (0x100 ≤ n) × (n ≤ 0x7EF)) back → AreDistinct back
    → AreDistinct (cond b (id ∷ []) [] ++ back) × All (λ n. n ≤ 0x7EF) (cond b (id ∷ []) [] ++ back)
trigger_alone b id back low range distinct = grind arith

with_trigger : (triggers : List DueTrigger) (at : ℕ) (back : List ℕ) → All (λ due. due.frame.identifier ≤ greatest_trigger) triggers
    → All (λ n. (0x100 ≤ n) × (n ≤ 0x7EF)) back → AreDistinct back
    → AreDistinct (offered_trigger triggers at ++ back) × All (λ n. n ≤ 0x7EF) (offered_trigger triggers at ++ back)
with_trigger [] at back low range distinct = (distinct, λ k d within. (range k d within).1)
with_trigger (due ∷ later) at back low range distinct =
    trigger_alone (nat_le due.at at) due.frame.identifier back (All-head (λ x. x.frame.identifier ≤ greatest_trigger) due later low) range distinct

pub offers-distinct : (stations : Stationed) (at : ℕ)
    → AreStations stations
    → AreDistinct (cycle_line.offered stations at) × All (λ n. n ≤ 0x7EF) (cycle_line.offered stations at)
offers-distinct stations at are =
    let nodes = stations.nodes in
    let Pair : NodeState → NodeState → Type 0 = λ one other. (one.layout ≡ other.layout) × IsNode one × IsNode other × AreApart one other in
    let pairs : AllPairs Pair nodes = λ i j d first within. (grind arith) in
    let distinct = AllPairs-filter_map (λ node. node_offer node at) Pair
    (λ one other a b pair is also same. offers-apart one other at a pair.0 pair.1 pair.2 pair.3 is (also ∙ ap (λ n. Some n) (sym same))) nodes pairs in
    with_trigger stations.triggers at (offered_by_nodes nodes at) are.triggers.low (offers_range nodes at are.nodes.are) distinct

-- what is left of the trigger frames behind one frame
module _ (layout : CycleLayout) where
  left-due : (due : DueTrigger) (later : List DueTrigger) (id : ℕ) (b : Bool) → (due.frame.identifier == id) ≡ b → AreDueTriggers layout (due ∷ later)
      → AreDueTriggers layout (cond b later (due ∷ later))
  left-due due later id true is are = record {
    low = All-tail (λ x. x.frame.identifier ≤ greatest_trigger) due later are.low;
    last = AllPairs-tail (λ one other. one.frame.identifier ≢ opening_identifier layout.slots) due later are.last;
  }
  left-due due later id false is are = are

  pub AreDue-after : (triggers : List DueTrigger) (id : ℕ) → AreDueTriggers layout triggers → AreDueTriggers layout (triggers_after id triggers)
  AreDue-after [] id are = are
  AreDue-after (due ∷ later) id are = left-due due later id (due.frame.identifier == id) refl are

  -- a trigger frame is left only where another one than the last was sent, and that one opens no cycle
  left-some : (due : DueTrigger) (later : List DueTrigger) (id : ℕ) → due.frame.identifier ≡ id → AreDueTriggers layout (due ∷ later)
      → triggers_after id (due ∷ later) ≢ [] → id ≢ opening_identifier layout.slots
  left-some due later id h0 h1 h2 = grind (arith, common_steps, eq-eqb, of_some)

  some-before : (triggers : List DueTrigger) (id : ℕ) → triggers_after id triggers ≢ [] → triggers ≢ []
  some-before triggers id h0 = grind arith

  next-kept_all : (nodes : List NodeState) (sent : TimedFrame) → All (λ node. node.layout ≡ layout) nodes → sent.frame.identifier ≢ opening_identifier layout.slots
      → All (λ node. node.next < 2 ^ 42) nodes → All (λ node. node.next < 2 ^ 42) (all_hear nodes sent)
  next-kept_all nodes sent layouts other early =
      All-map (λ node. node.next < 2 ^ 42) (λ node. after_hearing node sent) nodes (λ k d within. grind (arith, next_kept))

  -- the nodes can hear it
  pub can-hear : (triggers : List DueTrigger) (nodes : List NodeState) (sent : TimedFrame)
      → Contains (offered_trigger triggers sent.start ++ offered_by_nodes nodes sent.start) sent.frame.identifier
      → AreStations (record { layout = layout; triggers = triggers; nodes = nodes })
      → All (λ node. sent.frame.identifier ≡ opening_identifier node.layout.slots → node.next < 2 ^ 42) nodes
  can-hear triggers nodes sent has are = λ k d within opens. elim (cases_lt greatest_trigger sent.frame.identifier) [
    | inl high ↦ absurd (above-opens_not (get_or nodes k d).layout.slots sent.frame.identifier high opens)
    | inr low ↦
        let first = is_first triggers nodes sent.start sent.frame.identifier are.nodes.are has low in
        are.next (λ none. absurd (some_first first.0 first.1 (sym first.2 ∙ none))) k d within
  ]
    where
      some_first : (due : DueTrigger) (later : List DueTrigger) → due ∷ later ≡ [] → ⊥
      some_first due later none = cc

  -- stations that are told of a frame that one of them offers
  pub AreStations-told : (triggers : List DueTrigger) (nodes : List NodeState) (sent : TimedFrame)
      → Contains (offered_trigger triggers sent.start ++ offered_by_nodes nodes sent.start) sent.frame.identifier
      → AreStations (record { layout = layout; triggers = triggers; nodes = nodes })
      → AreStations (record { layout = layout; triggers = triggers_after sent.frame.identifier triggers; nodes = all_hear nodes sent })
  AreStations-told triggers nodes sent has are = record {
    nodes = AreNodes-hearing layout nodes sent (can-hear triggers nodes sent has are) are.nodes;
    triggers = AreDue-after triggers sent.frame.identifier are.triggers;
    next = λ some. elim (cases_lt greatest_trigger sent.frame.identifier) [
      | inl high ↦
          next-kept_all nodes sent are.nodes.layouts (λ opens. above-opens_not layout.slots sent.frame.identifier high opens)
          (are.next (some-before triggers sent.frame.identifier some))
      | inr low ↦
          let first = is_first triggers nodes sent.start sent.frame.identifier are.nodes.are has low in
          let other = left-some first.0 first.1 sent.frame.identifier first.3 (subst (AreDueTriggers layout) first.2 are.triggers)
          (subst (λ ts. triggers_after sent.frame.identifier ts ≢ []) first.2 some) in
          next-kept_all nodes sent are.nodes.layouts other (are.next (some-before triggers sent.frame.identifier some))
    ];
  }

-- the trigger frames of a cycle may be the next ones
pub AreDue-triggers : (layout : CycleLayout) (at cycle l mask : ℕ) → AreDueTriggers layout (due_from at (triggers_with layout.slots cycle l mask))
AreDue-triggers layout at cycle l mask = grind (arith, low_ids, opens_last)

-- stations of which the nodes learn a list
pub AreStations-learning : (stations : Stationed) (placed : List Placed) → IsWellPlaced placed
    → AreStations stations → AreStations (record stations { nodes = map (learnt placed) stations.nodes })
AreStations-learning stations placed well before = record {
  nodes = AreNodes-learning stations.layout stations.nodes placed well before.nodes;
  triggers = before.triggers;
  next = λ some. All-map (λ node. node.next < 2 ^ 42) (learnt placed) stations.nodes (before.next some);
}
