-- A cycle in two parts: the bus runs over its stations up to the synchronous window, and then over the nodes in that
-- window.
use Rattle.std.proofs.Common.{◌≡◌, ℕ, ◌+◌, ◌*◌, ◌^◌, ◌<◌, ◌≤◌, List, [], ◌∷◌, ◌++◌, All, length, map, max, get_or, sym, ap, ◌∙◌, subst, arith}
use Rattle.std.specs.Prelude.{fold}
use Rattle.std.proofs.Math.Nat.{add-mul}
use Rattle.std.proofs.lemmas.List.Elements.{All-map}
use Rattle.std.proofs.lemmas.List.Sums.{fold-append}
use Rattle.can_frame.specs.declared.data_frame.TimedFrame.{TimedFrame}
use Rattle.can_frame.proofs.Shared.{wire-least}
use Rattle.cycle_layout.specs.Layout.{CycleLayout, IsLayout, sync_start, trigger_part}
use Rattle.trigger_codec.specs.Bytes.{triggers_with}
use Rattle.bus_line.specs.Trace.{Follows, end_of, free_after}
use Rattle.bus_line.specs.Stations.{Ran, offers_of, told}
use Rattle.bus_line.proofs.Shared.{Follows-along, Follows-joined}
use Rattle.node_model.specs.Node.{NodeState, after_hearing}
use Rattle.node_model.specs.Window.{IsInWindow}
use Rattle.node_model.proofs.Shared.{opens-cycle, stays-in_window}
use Rattle.cycle_engine.specs.Nodes.{heard_by}
use Rattle.cycle_engine.specs.Stations.{AreNodes, Stationed, announced, cycle_line}
use Rattle.cycle_engine.specs.SyncWindow.{IsBeforeWindow, nodes_alone}
use Rattle.cycle_engine.proofs.Hearing.{layout_kept_all}
use Rattle.cycle_engine.proofs.TriggerFrames.{frames_long}
use Rattle.cycle_engine.proofs.Announced.{CanBeHeard, can-be-heard}
use Rattle.cycle_engine.proofs.Along.{told-heard, told-layout}
use Rattle.cycle_engine.proofs.NextCycle.{All-behind}

-- the stations behind some frames, once no trigger frame is left
told-is : (s : Stationed) (layout : CycleLayout) → s.layout ≡ layout → s.triggers ≡ [] → nodes_alone layout s.nodes ≡ s
told-is s layout same none = grind arith

-- what follows among the stations behind some frames follows those frames
Follows-told : (before : Stationed) (front back : List TimedFrame) (free until : ℕ)
    → Follows (offers_of cycle_line (told cycle_line before front)) [] free until back → Follows (offers_of cycle_line before) front free until back
Follows-told before front back free until follows =
    Follows-along (offers_of cycle_line (told cycle_line before front)) (offers_of cycle_line before) [] front free until back
    (λ sofar later at frame _ _ _. grind (arith, fold-append))
    follows

-- both parts together
pub Follows-parts : (layout : CycleLayout) (before : Stationed) (start window end : ℕ) (front back : List TimedFrame) → window ≤ end
    → before.layout ≡ layout → (told cycle_line before front).triggers ≡ []
    → Follows (offers_of cycle_line before) [] start window front
    → Follows (offers_of cycle_line (nodes_alone layout (told cycle_line before front).nodes)) [] (max window (free_after start front)) end back
    → Follows (offers_of cycle_line before) [] start end (front ++ back)
Follows-parts layout before start window end front back early same none first second =
    Follows-joined (offers_of cycle_line before) [] start window end front back early first
    (Follows-told before front back (max window (free_after start front)) end
    (subst (λ s. Follows (offers_of cycle_line s) [] (max window (free_after start front)) end back)
    (told-is (told cycle_line before front) layout (told-layout front before ∙ same) none) second))

-- no frame is shorter than 47 bit times
pub few-frames : (before : Stationed) (past : List TimedFrame) (free until : ℕ) (frames : List TimedFrame)
    → Follows (offers_of cycle_line before) past free until frames → free + 47 * length frames ≤ free_after free frames
few-frames before past free until [] follows = omega arith
few-frames before past free until (sent ∷ later) (next, follows) =
    let rest = few-frames before (past ++ sent ∷ []) (end_of sent) until later follows in
    let first = wire-least sent.frame in
    omega (arith, rest, first, next.whole, next.when_free)

-- the nodes behind the first part are in the window
module _ (layout : CycleLayout) (cycle l mask : ℕ) (is_layout : IsLayout layout) (early : cycle < 2 ^ 42) (small : l ≤ layout.window) (few : mask < 2 ^ layout.slots) where
  -- a node that hears the trigger frames is in the window of that cycle
  opened-by : (window end : ℕ) (node : NodeState) (sent : List TimedFrame) → sync_start layout cycle l ≤ window → end ≡ (cycle + 1) * layout.cycle
      → map (λ one. one.frame) sent ≡ triggers_with layout.slots cycle l mask → node.layout ≡ layout → node.next ≡ cycle → IsInWindow window end (fold after_hearing node sent)
  opened-by window end node sent begun ends triggers same next =
      let own = opens-cycle node l mask sent (subst IsLayout (sym same) is_layout) (subst (λ x. l ≤ x.window) (sym same) small) (subst (λ x. mask < 2 ^ x.slots) (sym same) few)
      (triggers ∙ ap (λ c. triggers_with layout.slots c l mask) (sym next) ∙ ap (λ x. triggers_with x.slots node.next l mask) (sym same)) in
      grind (arith, layout_kept_all)

  pub in_window-behind : (start window end : ℕ) (nodes : List NodeState) (frames : List TimedFrame) → start + trigger_part layout ≤ window → sync_start layout cycle l ≤ window
      → end ≡ (cycle + 1) * layout.cycle → CanBeHeard layout (triggers_with layout.slots cycle l mask) nodes → All (λ node. node.next ≡ cycle) nodes
      → Follows (offers_of cycle_line (announced layout start (triggers_with layout.slots cycle l mask) nodes)) [] start window frames
      → All (IsInWindow window end) (heard_by frames nodes)
      × ((told cycle_line (announced layout start (triggers_with layout.slots cycle l mask) nodes) frames).triggers ≡ [])
  in_window-behind start window end nodes frames some begun ends can next follows =
      All-behind layout window (IsInWindow window end) (λ node sent other is. stays-in_window node window end sent other is)
      nodes frames start (triggers_with layout.slots cycle l mask) (omega (arith, some, frames_long layout.slots cycle l mask)) can
      (λ sent triggers. All-map (IsInWindow window end) (λ node. fold after_hearing node sent) nodes
      (λ k d within. opened-by window end (get_or nodes k d) sent begun ends triggers (can.layouts k d within) (next k d within)))
      follows

-- a run by what is said of it
Ran-same : (before also after : Stationed) (from low until high : ℕ) (old new : List TimedFrame) (free : ℕ) → before ≡ also → from ≡ low → until ≡ high
    → old ≡ [] → Ran cycle_line before after from until old new free → Ran cycle_line also after low high [] new free
Ran-same before also after from low until high old new free a b c d ran = grind arith

-- what is known of the nodes and the frames when the bus has run up to the synchronous window
pub before-window : (layout : CycleLayout) (cycle l mask : ℕ) → IsLayout layout → cycle < 2 ^ 42 → l ≤ layout.window → mask < 2 ^ layout.slots
    → (nodes : List NodeState) → AreNodes layout nodes → All (λ node. node.next ≡ cycle) nodes
    → (before after : Stationed) (from until : ℕ) (old new : List TimedFrame) (free : ℕ)
    → before ≡ announced layout (cycle * layout.cycle) (triggers_with layout.slots cycle l mask) nodes → from ≡ cycle * layout.cycle
    → until ≡ sync_start layout cycle l → old ≡ [] → Ran cycle_line before after from until old new free
    → IsBeforeWindow layout cycle l mask nodes after.nodes new (max until free)
before-window layout cycle l mask is_layout early small few nodes are next before after from until old new free a b c d first =
    let start = cycle * layout.cycle in
    let window = sync_start layout cycle l in
    let end = (cycle + 1) * layout.cycle in
    let triggers = triggers_with layout.slots cycle l mask in
    let waiting = announced layout start triggers nodes in
    let ran = Ran-same before waiting after from start until window old new free a b c d first in
    let front = ran.frames in
    let longer = add-mul cycle 1 layout.cycle in
    let room : start + trigger_part layout ≤ window = omega (arith, longer, small, is_layout.room) in
    let can = can-be-heard layout cycle l mask nodes early are.are are.layouts next in
    let behind = in_window-behind layout cycle l mask is_layout early small few start window end nodes front room
    (omega arith) (omega arith) can next ran.follows in
    grind (arith, told-heard, few-frames, Follows-parts)
