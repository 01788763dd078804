-- The next cycle of the nodes is one more behind a cycle.
use Rattle.std.proofs.Common.{◌≡◌, ◌≢◌, ℕ, ◌+◌, ◌*◌, ◌<◌, ◌≤◌, List, [], ◌∷◌, ◌++◌, All, length, map, get_or, refl, sym, ap, ◌∙◌, subst, arith}
use Rattle.std.specs.Prelude.{fold}
use Rattle.std.proofs.lemmas.List.Elements.{All-contains, All-map}
use Rattle.std.proofs.lemmas.List.Sums.{fold-append}
use Rattle.can_frame.specs.DataFrame.{DataFrame}
use Rattle.can_frame.specs.declared.data_frame.TimedFrame.{TimedFrame}
use Rattle.cycle_layout.specs.Layout.{CycleLayout}
use Rattle.trigger_codec.specs.Bytes.{triggers_with}
use Rattle.trigger_codec.proofs.Shared.{OpensByLast, last_opens}
use Rattle.bus_line.specs.Trace.{Follows, end_of}
use Rattle.bus_line.specs.Stations.{IsOffered, offers_of, told}
use Rattle.trigger_kind.specs.Kind.{greatest_trigger, opening_identifier}
use Rattle.node_model.specs.Node.{IsNode, NodeState, after_hearing}
use Rattle.node_model.proofs.Shared.{node-hearing}
use Rattle.cycle_engine.specs.Nodes.{heard_by}
use Rattle.cycle_engine.specs.Stations.{DueTrigger, Stationed, all_hear, announced, cycle_line, offered_by_nodes, triggers_after}
use Rattle.cycle_engine.specs.SyncWindow.{nodes_alone}
use Rattle.cycle_engine.proofs.Hearing.{layout_kept, next_kept}
use Rattle.cycle_engine.proofs.Announced.{CanBeHeard, go-first, heard-first, heard-twice, map-same, offers_range}
use Rattle.trigger_kind.proofs.Shared.{above-opens_not}

-- no trigger frame comes back
told-alone : (frames : List TimedFrame) (before : Stationed) → before.triggers ≡ [] → (told cycle_line before frames).triggers ≡ []
told-alone [] before none = none
told-alone (sent ∷ later) before none = told-alone later (cycle_line.next before sent) (none_left sent.frame.identifier before.triggers none)
  where
    none_left : (id : ℕ) (triggers : List DueTrigger) → triggers ≡ [] → triggers_after id triggers ≡ []
    none_left id triggers none = grind arith

-- frames of which the last one opens a cycle: the next one is one more
opened-by : (layout : CycleLayout) (cycle : ℕ) (sent : List TimedFrame) (node : NodeState) → node.layout ≡ layout → node.next ≡ cycle
    → OpensByLast (opening_identifier layout.slots) (map (λ s. s.frame) sent) → (fold after_hearing node sent).next ≡ cycle + 1
opened-by layout cycle [] node same at none = absurd none
opened-by layout cycle (one ∷ []) node same at last = grind arith
opened-by layout cycle (one ∷ next ∷ more) node same at (earlier, opens) =
    let other : one.frame.identifier ≢ opening_identifier node.layout.slots =
    λ is. absurd (omega (arith, earlier, is, ap (λ l. opening_identifier l.slots) same)) in
    opened-by layout cycle (next ∷ more) (after_hearing node one) (layout_kept node one ∙ same) (next_kept node one other ∙ at) opens

-- so do the trigger frames of a cycle
triggers-open : (layout : CycleLayout) (cycle l mask : ℕ) (node : NodeState) (sent : List TimedFrame) → node.layout ≡ layout → node.next ≡ cycle
    → map (λ s. s.frame) sent ≡ triggers_with layout.slots cycle l mask → (fold after_hearing node sent).next ≡ cycle + 1
triggers-open layout cycle l mask node sent same at are = grind (arith, opened-by, last_opens)

module _ (layout : CycleLayout) (until : ℕ) where
  -- what each node keeps of what it knows, whatever it hears but trigger frames, holds behind all other frames
  module _ (P : NodeState → Type 0) (kept : (node : NodeState) (sent : TimedFrame) → greatest_trigger < sent.frame.identifier → P node → P (after_hearing node sent)) where
    All-nodes : (before : Stationed) (sofar : List TimedFrame) (nodes : List NodeState) (free : ℕ) (frames : List TimedFrame)
        → told cycle_line before sofar ≡ nodes_alone layout nodes → All IsNode nodes → All P nodes
        → Follows (offers_of cycle_line before) sofar free until frames → All P (heard_by frames nodes)
    All-nodes before sofar nodes free [] now are holds follows = subst (All P) (sym (map-same nodes)) holds
    All-nodes before sofar nodes free (sent ∷ later) now are holds (is_next, follows) =
        let offered = subst (λ s. IsOffered cycle_line s sent.start sent.frame) now is_next.least.offered in
        let other : greatest_trigger < sent.frame.identifier =
        omega (arith, (All-contains (λ n. (0x100 ≤ n) × (n ≤ 0x7EF)) (offered_by_nodes nodes sent.start) sent.frame.identifier (offers_range nodes sent.start are) offered.contends).0) in
        subst (All P) (heard-first sent later nodes)
        (All-nodes before (sofar ++ sent ∷ []) (all_hear nodes sent) (end_of sent) later
        (fold-append cycle_line.next before sofar (sent ∷ []) ∙ ap (λ s. cycle_line.next s sent) now)
        (All-map IsNode (λ node. after_hearing node sent) nodes (λ k d within. grind (arith, node-hearing, above-opens_not)))
        (All-map P (λ node. after_hearing node sent) nodes (λ k d within. kept (get_or nodes k d) sent other (holds k d within))) follows)

    -- the trigger frames go first, and behind them only others come
    pub All-behind : (nodes : List NodeState) (frames : List TimedFrame) (low : ℕ) (triggers : List DataFrame) → low + length triggers * 135 ≤ until
        → CanBeHeard layout triggers nodes
        → ((sent : List TimedFrame) → map (λ s. s.frame) sent ≡ triggers → All P (heard_by sent nodes))
        → Follows (offers_of cycle_line (announced layout low triggers nodes)) [] low until frames
        → All P (heard_by frames nodes) × ((told cycle_line (announced layout low triggers nodes) frames).triggers ≡ [])
    All-behind nodes frames low triggers room can opens follows =
        let before = announced layout low triggers nodes in
        let cut = go-first layout low triggers nodes before [] low until frames (omega arith) room can refl follows in (grind (arith, heard-twice, All-nodes, fold-append, told-alone))

  -- behind a cycle the next one is one more
  pub AtCycle-behind : (nodes : List NodeState) (frames : List TimedFrame) (low cycle l mask : ℕ) → low + length (triggers_with layout.slots cycle l mask) * 135 ≤ until
      → CanBeHeard layout (triggers_with layout.slots cycle l mask) nodes → All (λ node. node.next ≡ cycle) nodes
      → Follows (offers_of cycle_line (announced layout low (triggers_with layout.slots cycle l mask) nodes)) [] low until frames
      → All (λ node. node.next ≡ cycle + 1) (heard_by frames nodes)
  AtCycle-behind nodes frames low cycle l mask room can at follows =
      (All-behind (λ node. node.next ≡ cycle + 1)
      (λ node sent other is. next_kept node sent (λ opens. above-opens_not node.layout.slots sent.frame.identifier other opens) ∙ is)
      nodes frames low (triggers_with layout.slots cycle l mask) room can
      (λ sent are. All-map (λ node. node.next ≡ cycle + 1) (λ node. fold after_hearing node sent) nodes
      (λ k d within. triggers-open layout cycle l mask (get_or nodes k d) sent (can.layouts k d within) (at k d within) are)) follows).0
