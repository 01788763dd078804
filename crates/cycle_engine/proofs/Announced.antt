-- The trigger frames that the master has to send go before everything that the nodes offer, one at once behind the other.
use Rattle.std.proofs.Common.{◌≡◌, ◌≢◌, ℕ, ◌+◌, ◌*◌, ◌^◌, ◌<◌, ◌≤◌, List, [], ◌∷◌, ◌++◌, length, map, get_or, All, AllPairs, inl, inr, refl, sym, ap, ◌∙◌, subst, arith, append_assoc, append-nil}
use Rattle.std.proofs.lemmas.Grind.{common_steps}
use Rattle.std.specs.Prelude.{fold}
use Rattle.std.proofs.lemmas.Bool.{cases_lt, eq-eqb, le-leb}
use Rattle.std.proofs.lemmas.List.Elements.{All-contains, All-head, All-map, All-tail}
use Rattle.std.proofs.lemmas.List.Sums.{fold-append}
use Rattle.can_frame.specs.DataFrame.{DataFrame}
use Rattle.can_frame.specs.Wire.{wire_length}
use Rattle.can_frame.specs.declared.data_frame.TimedFrame.{TimedFrame}
use Rattle.cycle_layout.specs.Layout.{CycleLayout}
use Rattle.trigger_codec.specs.Bytes.{triggers_with}
use Rattle.bus_line.specs.Trace.{Follows, IsNext, end_of, free_after}
use Rattle.bus_line.specs.Stations.{IsOffered, offers_of, told}
use Rattle.trigger_kind.specs.Kind.{greatest_trigger, opening_identifier}
use Rattle.node_model.specs.Node.{IsNode, NodeState, after_hearing, node_offer}
use Rattle.node_model.proofs.Shared.{node-hearing, offers-in_range}
use Rattle.cycle_engine.specs.Nodes.{heard_by}
use Rattle.cycle_engine.specs.Stations.{Stationed, all_hear, announced, cycle_line, offered_by_nodes}
use Rattle.cycle_engine.specs.SyncWindow.{nodes_alone}
use Rattle.cycle_engine.proofs.Lists.{All-from_contains, AllPairs-head, AllPairs-tail, Contains-from_filter_map}
use Rattle.cycle_engine.proofs.Hearing.{layout_kept, next_kept}
use Rattle.cycle_engine.proofs.TriggerFrames.{AtOnce, StartAt, frames_short, low_ids, opens_last}

pub map-same : {X : Type 0} (xs : List X) → map (λ x. x) xs ≡ xs
map-same xs = grind (arith, common_steps)

pub map-twice : {X : Type 0} (f g : X → X) (xs : List X) → map g (map f xs) ≡ map (λ x. g (f x)) xs
map-twice f g [] = refl
map-twice f g (x ∷ xs) = ap (λ ys. g (f x) ∷ ys) (map-twice f g xs)

-- nodes that hear one more frame first
pub heard-first : (sent : TimedFrame) (later : List TimedFrame) (nodes : List NodeState) → heard_by later (all_hear nodes sent) ≡ heard_by (sent ∷ later) nodes
heard-first sent later nodes = map-twice (λ node. after_hearing node sent) (λ node. fold after_hearing node later) nodes

pub heard-twice : (frames later : List TimedFrame) (nodes : List NodeState) → heard_by later (heard_by frames nodes) ≡ heard_by (frames ++ later) nodes
heard-twice [] later nodes = ap (heard_by later) (map-same nodes)
heard-twice (sent ∷ frames) later nodes =
    ap (heard_by later) (sym (heard-first sent frames nodes)) ∙ heard-twice frames later (all_hear nodes sent) ∙ heard-first sent (frames ++ later) nodes

pub offers_range : (nodes : List NodeState) (at : ℕ) → All IsNode nodes → All (λ id. (0x100 ≤ id) × (id ≤ 0x7EF)) (offered_by_nodes nodes at)
offers_range nodes at are =
    All-from_contains (λ id. (0x100 ≤ id) × (id ≤ 0x7EF)) (offered_by_nodes nodes at) (λ id has.
    let found = Contains-from_filter_map (λ node. node_offer node at) nodes id has in
    offers-in_range found.0 at id (All-contains IsNode nodes found.0 are found.1) found.2)

-- what holds of nothing but the list being not empty
pub of_some : {X : Type 0} (P : Type 0) (xs : List X) → xs ≢ [] → All (λ _. P) xs → P
of_some P [] some all = absurd (some refl)
of_some P (x ∷ xs) some all = All-head (λ _. P) x xs all

-- frames that follow, cut behind the trigger frames
pub record GoFirst (layout : CycleLayout) (frames : List DataFrame) (nodes : List NodeState) (before : Stationed) (sofar : List TimedFrame) (free until : ℕ) (all : List TimedFrame) : Type 0 where
  pub sent : List TimedFrame
  pub later : List TimedFrame
  pub split : all ≡ sent ++ later
  pub are : map (λ s. s.frame) sent ≡ frames
  pub at_once : AtOnce free sent
  pub now : told cycle_line before (sofar ++ sent) ≡ nodes_alone layout (heard_by sent nodes)
  pub follows : Follows (offers_of cycle_line before) (sofar ++ sent) (free_after free sent) until later
  pub known : All IsNode (heard_by sent nodes)

-- trigger frames that nodes can hear: none but the last one opens a cycle, and each is short
pub record CanBeHeard (layout : CycleLayout) (frames : List DataFrame) (nodes : List NodeState) : Type 0 where
  pub first : All (λ frame. frame.identifier ≤ greatest_trigger) frames
  pub last : AllPairs (λ one other. one.identifier ≢ opening_identifier layout.slots) frames
  pub short : All (λ frame. wire_length frame ≤ 135) frames
  pub are : All IsNode nodes
  pub layouts : All (λ node. node.layout ≡ layout) nodes
  pub next : frames ≢ [] → All (λ node. node.next < 2 ^ 42) nodes

-- nodes before a cycle can hear its trigger frames
pub can-be-heard : (layout : CycleLayout) (cycle l mask : ℕ) → (nodes : List NodeState) → cycle < 2 ^ 42
    → All IsNode nodes → All (λ node. node.layout ≡ layout) nodes → All (λ node. node.next ≡ cycle) nodes → CanBeHeard layout (triggers_with layout.slots cycle l mask) nodes
can-be-heard layout cycle l mask nodes early are layouts at = grind (arith, low_ids, opens_last, frames_short)

module _ (layout : CycleLayout) (low : ℕ) where
  -- the first of the trigger frames is offered from the time on
  pub offers_announced : (frame : DataFrame) (later : List DataFrame) (nodes : List NodeState) (at : ℕ) → low ≤ at
      → IsOffered cycle_line (announced layout low (frame ∷ later) nodes) at frame
  offers_announced frame later nodes at late = grind (arith, le-leb, eq-eqb)

  -- behind it the others are left
  pub next_announced : (frame : DataFrame) (later : List DataFrame) (nodes : List NodeState) (sent : TimedFrame) → sent.frame ≡ frame
      → cycle_line.next (announced layout low (frame ∷ later) nodes) sent ≡ announced layout low later (all_hear nodes sent)
  next_announced frame later nodes sent is = grind (arith, common_steps, eq-eqb)

  -- it is sent at once
  pub first_announced : (frame : DataFrame) (later : List DataFrame) (nodes : List NodeState) (before : Stationed) (sofar : List TimedFrame) (free until : ℕ) (sent : TimedFrame)
      → low ≤ free → frame.identifier ≤ greatest_trigger → All IsNode nodes → told cycle_line before sofar ≡ announced layout low (frame ∷ later) nodes
      → IsNext (offers_of cycle_line before) sofar free until sent → StartAt free sent × (sent.frame ≡ frame)
  first_announced frame later nodes before sofar free until sent late first are now next =
      let start : sent.start ≡ free = elim (cases_lt free sent.start) [
        | inl gap ↦ absurd (next.first free frame (omega arith) gap (subst (λ s. IsOffered cycle_line s free frame) (sym now) (offers_announced frame later nodes free late)))
        | inr no_gap ↦ omega (arith, no_gap, next.when_free)
      ] in
      let least : sent.frame.identifier ≤ frame.identifier =
      next.least.least frame (subst (λ s. IsOffered cycle_line s sent.start frame) (sym now) (offers_announced frame later nodes sent.start (omega (arith, late, start)))) in
      let same : frame.identifier ≡ sent.frame.identifier = grind (arith, offers_range) in (grind (arith, common_steps, eq-eqb))

  CanBeHeard-more : (frame : DataFrame) (later : List DataFrame) (nodes : List NodeState) (sent : TimedFrame) → sent.frame ≡ frame → CanBeHeard layout (frame ∷ later) nodes
      → CanBeHeard layout later (all_hear nodes sent)
  CanBeHeard-more frame later nodes sent is can =
      let early = can.next (λ none. absurd (cc)) in
      record {
        first = All-tail (λ f. f.identifier ≤ greatest_trigger) frame later can.first;
        last = AllPairs-tail (λ one other. one.identifier ≢ opening_identifier layout.slots) frame later can.last;
        short = All-tail (λ f. wire_length f ≤ 135) frame later can.short;
        are = All-map IsNode (λ node. after_hearing node sent) nodes (λ k d within. node-hearing (get_or nodes k d) sent (λ _. early k d within) (can.are k d within));
        layouts = All-map (λ node. node.layout ≡ layout) (λ node. after_hearing node sent) nodes (λ k d within. layout_kept (get_or nodes k d) sent ∙ can.layouts k d within);
        next = λ some.
            let other : frame.identifier ≢ opening_identifier layout.slots =
            of_some (frame.identifier ≢ opening_identifier layout.slots) later some (AllPairs-head (λ one two. one.identifier ≢ opening_identifier layout.slots) frame later can.last) in
            All-map (λ node. node.next < 2 ^ 42) (λ node. after_hearing node sent) nodes (λ k d within. grind (arith, next_kept));
      }

  pub go-first : (frames : List DataFrame) (nodes : List NodeState) (before : Stationed) (sofar : List TimedFrame) (free until : ℕ) (all : List TimedFrame)
      → low ≤ free → free + length frames * 135 ≤ until → CanBeHeard layout frames nodes → told cycle_line before sofar ≡ announced layout low frames nodes
      → Follows (offers_of cycle_line before) sofar free until all → GoFirst layout frames nodes before sofar free until all
  go-first [] nodes before sofar free until all late room can now follows = record {
    sent = [];
    later = all;
    split = refl;
    are = refl;
    at_once = tt;
    now = ap (told cycle_line before) (append-nil sofar) ∙ now ∙ ap (nodes_alone layout) (sym (map-same nodes));
    follows = subst (λ front. Follows (offers_of cycle_line before) front free until all) (sym (append-nil sofar)) follows;
    known = subst (All IsNode) (sym (map-same nodes)) can.are;
  }
  go-first (frame ∷ rest) nodes before sofar free until [] late room can now nothing =
      absurd (nothing free frame (omega arith) (omega (arith, room)) (subst (λ s. IsOffered cycle_line s free frame) (sym now) (offers_announced frame rest nodes free late)))
  go-first (frame ∷ rest) nodes before sofar free until (sent ∷ all) late room can now (next, follows) =
      let first = first_announced frame rest nodes before sofar free until sent late (All-head (λ f. f.identifier ≤ greatest_trigger) frame rest can.first) can.are now next in
      let starts : StartAt free sent = first.0 in
      let is : sent.frame ≡ frame = first.1 in
      let long : wire_length frame ≤ 135 = All-head (λ f. wire_length f ≤ 135) frame rest can.short in
      let ended : end_of sent ≤ free + 135 = omega (arith, long, starts.start, starts.whole, ap wire_length is) in
      let told_more : told cycle_line before (sofar ++ sent ∷ []) ≡ announced layout low rest (all_hear nodes sent) =
      fold-append cycle_line.next before sofar (sent ∷ []) ∙ ap (λ s. cycle_line.next s sent) now ∙ next_announced frame rest nodes sent is in
      let behind = go-first rest (all_hear nodes sent) before (sofar ++ sent ∷ []) (end_of sent) until all (omega (arith, late, starts.start)) (omega (arith, room, ended))
      (CanBeHeard-more frame rest nodes sent is can) told_more follows in
      grind (arith, append_assoc, heard-first)
