-- What keeps a run going.
use Rattle.std.proofs.Common.{◌≡◌, ◌≢◌, ℕ, ◌+◌, ◌*◌, ◌/◌, ◌^◌, ◌<◌, ◌≤◌, ◌⊎◌, false, cond, length, List, [], ◌∷◌, ◌++◌, map, All, refl, sym, ap, ◌∙◌, subst, arith, add-zero}
use Rattle.std.specs.Prelude.{is_some}
use Rattle.std.specs.List.{range_with_len}
use Rattle.std.proofs.lemmas.List.{append-nil, map-append}
use Rattle.std.proofs.lemmas.List.Elements.{All-append, All-cons, All-nil, All-weaker}
use Rattle.can_frame.specs.declared.data_frame.TimedFrame.{TimedFrame}
use Rattle.trigger_codec.specs.Bytes.{trigger_frame, triggers_with, width_told}
use Rattle.cycle_layout.specs.Layout.{CycleLayout, IsLayout}
use Rattle.requirement_table.specs.Opening.{Opening, width_of}
use Rattle.bit_sets.specs.Sets.{has_bit}
use Rattle.requirement_table.specs.Table.{width_in}
use Rattle.requirement_table.specs.declared.entries.Order.{Order}
use Rattle.requirement_table.specs.declared.entries.Placed.{Placed}
use Rattle.requirement_table.specs.Instance.{bytes_of}
use Rattle.async_window.specs.declared.request.Request.{Request}
use Rattle.admission_rules.specs.declared.Rules.{Rules}
use Rattle.bus_line.specs.Trace.{Follows, end_of}
use Rattle.cycle_engine.specs.Cycle.{FitsWindow, FollowsTrace, IsRequestFrame, IsSlotFrame, RunsCycle}
use Rattle.cycle_engine.specs.Nodes.{HaveSpare, NodesView, opening_of, states_of}
use Rattle.cycle_engine.specs.Offered.{AreAsynchronous, IsCanTrace, offered_in}
use Rattle.master_core.specs.declared.event.Event.{Event}
use Rattle.master_core.specs.declared.event.Event.TheVariants.{Open}
use Rattle.master_core.specs.History.{IsLegal, IsPlainlyLegal, is_open, learned_of, next_of, placed_of}
use Rattle.master_core.specs.Openings.{openings_of}
use Rattle.master_core.specs.Orders.{IsOrderFor}
use Rattle.kept_run.specs.Progress.{AreNodesReady, IsOnTheWay, IsUnderWay}
use Rattle.kept_run.specs.Setting.{IsSetting, Setting}
use Rattle.kept_run.proofs.Shared.{CallsBetween, CyclesRun, RanOrder, next_of-push, number-below, ran-follows, second_identifiers, way-called, way-run, way-same}
use Rattle.node_model.specs.Node.{NodeView}
use Rattle.node_model.specs.Offered.{trigger_frames}
use Rattle.bus_trace.specs.EventRows.{BeginsCycle, rows_of_event, width_told_in}
use Rattle.bus_trace.specs.Log.{events_rows, triggers_in}
use Rattle.replay_run.specs.declared.bus.Bus.{Bus}
use Rattle.replay_run.specs.Progress.{BeginWithTriggers, CanGo, CanTellLast, GoesStill, IsBroughtOn, IsGoing, KeepsFrames}
use Rattle.replay_run.proofs.EventRows.{called-rows, not-first, opened-rows, triggers-more, width-told}

-- a run whose master has answered a call that opens no cycle goes on
pub answered : CallsBetween → (setting : Setting) (trace : List TimedFrame) (run after : Bus) (call : Event) → is_open call ≡ false
    → after.master.rules ≡ run.master.rules → after.master.history ≡ run.master.history ++ call ∷ []
    → (IsPlainlyLegal run.master.rules run.master.history → IsPlainlyLegal after.master.rules after.master.history)
    → after.nodes ≡ run.nodes → after.spare ≡ run.spare → after.trace ≡ run.trace → after.master.keeps ≡ run.master.keeps
    → IsGoing setting trace run → IsBroughtOn setting trace run after []
answered laws setting trace run after call closed same_rules history keeps same_nodes same_spare same_trace same_events going =
    let rules : after.master.rules ≡ setting.rules = same_rules ∙ going.same_rules in
    let plain : IsPlainlyLegal setting.rules after.master.history =
    subst (λ r. IsPlainlyLegal r after.master.history) rules (keeps (subst (λ r. IsPlainlyLegal r run.master.history) (sym going.same_rules) going.plain)) in
    let one : All (λ event. is_open event ≡ false) (call ∷ []) =
    All-cons (λ event. is_open event ≡ false) call [] closed (All-nil (λ event. is_open event ≡ false)) in
    let whole : IsLegal setting.rules (run.master.history ++ call ∷ []) = subst (λ h. IsLegal setting.rules h) history plain.legal in
    let next : next_of after.master.history ≡ next_of run.master.history =
    ap next_of history ∙ next_of-push run.master.history call ∙ ap (λ b. next_of run.master.history + cond b 1 0) closed ∙ add-zero (next_of run.master.history) in
    let on : IsGoing setting trace after = record {
      same_rules = rules;
      plain = plain;
      way = subst (λ h. IsOnTheWay setting h trace after.nodes) (sym history) (subst (λ n. IsOnTheWay setting (run.master.history ++ call ∷ []) trace n) (sym same_nodes)
          (way-called laws setting run.master.history (call ∷ []) trace run.nodes one whole going.way));
      triggers = going.triggers ∙ sym next;
      frames = subst (λ t. KeepsFrames t trace) (sym same_trace) going.frames;
      events = same_events ∙ going.events ∙ ap (λ t. is_some t) (sym same_trace);
      spare = subst (λ n. HaveSpare n after.nodes.nodes) (sym same_spare) (subst (λ nodes. HaveSpare run.spare nodes.nodes) (sym same_nodes) going.spare);
    } in
    let same : trace ≡ trace ++ [] = sym (append-nil trace) in
    record {
      event = call;
      history = history;
      going = subst (λ l. IsGoing setting l after) same on;
      rows = λ before legal placed cycle. subst (λ l. events_rows l [] (before ++ call ∷ []) ≡ events_rows trace [] before ++ rows_of_event call []) same
          (called-rows trace before call closed);
    }

-- a cycle that is run by the master's order keeps a run on the way, and its frames are what the opening says
pub record CyclesSent : Type 0 where
  pub run : CyclesRun
  pub fits : (setting : Setting) (history : List Event) (order : Order) → IsSetting setting → IsOrderFor setting.rules history order
      → FitsWindow setting.layout (opening_of order (placed_of history))
  pub cycles : (rules : Rules) (history : List Event) → IsLegal rules history → map (λ o. o.cycle) (openings_of history) ≡ range_with_len 0 (next_of history)
  pub sends : (layout : CycleLayout) (requests : List Request) (openings : List Opening) (opening : Opening) (trace frames : List TimedFrame)
      → IsLayout layout → FollowsTrace bytes_of layout requests openings opening trace frames → AreAsynchronous requests → FitsWindow layout opening
      → RunsCycle bytes_of layout opening frames

-- The frames of an opened cycle

-- a cycle's trigger and the frames behind it, where these entries are placed
pub record Sends (placed : List Placed) (order : Order) (frames : List TimedFrame) : Type 0 where
  pub trigger : TimedFrame
  pub later : List TimedFrame
  pub frames_are : frames ≡ trigger ∷ later
  pub is_trigger : trigger.frame ≡ trigger_frame order.cycle (width_of (opening_of order placed)) order.mask
  pub others : All (λ sent. sent.frame.identifier ≢ 0) later
  pub wide : width_of (opening_of order placed) < 2 ^ 16

-- a cycle that was run by the master's order runs as its opening says
runs : CyclesSent → (setting : Setting) (history : List Event) (trace frames : List TimedFrame) (nodes new : NodesView) (order : Order)
    → IsOrderFor setting.rules history order → RanOrder order nodes new frames → IsOnTheWay setting history trace nodes → RunsCycle bytes_of setting.layout (opening_of order (placed_of history)) frames
runs laws setting history trace frames nodes new order ordered did way =
    let layout = setting.layout in
    let so_far = way.under_way in
    let known = way.known in
    let openings : List Opening = openings_of history in
    let opening : Opening = opening_of order (placed_of history) in
    let follows = ran-follows laws.run setting history trace frames nodes new order ordered did way in
    let fits = laws.fits setting history order known ordered in
    let now : order.cycle ≡ next_of history = ordered.is.cycle in
    let behind : FollowsTrace bytes_of layout setting.requests openings opening trace frames = record {
      below = subst (λ n. All (λ o. o.cycle < n) openings) (sym now) (number-below (λ (o : Opening). o.cycle) openings (next_of history) (laws.cycles setting.rules history so_far.legal));
      can_trace = subst (λ n. IsCanTrace bytes_of layout setting.requests openings n trace) (sym now)
          (subst (λ s. IsCanTrace s layout setting.requests openings (next_of history) trace) way.ready.same_bytes so_far.can_trace);
      ended = subst (λ n. All (λ sent. end_of sent ≤ n * layout.cycle) trace) (sym now) so_far.ended;
      follows = subst (λ l. Follows (offered_in bytes_of l setting.requests opening) trace (order.cycle * l.cycle) ((order.cycle + 1) * l.cycle) frames) way.ready.same_layout follows;
    } in
    laws.sends layout setting.requests openings opening trace frames known.known behind known.asynchronous fits

sends : CyclesSent → (setting : Setting) (history : List Event) (trace frames : List TimedFrame) (nodes new : NodesView) (order : Order)
    → IsOrderFor setting.rules history order → RanOrder order nodes new frames → IsOnTheWay setting history trace nodes → Sends (placed_of history) order frames
sends laws setting history trace frames nodes new order ordered did way =
    let layout = setting.layout in
    let known = way.known in
    let opening : Opening = opening_of order (placed_of history) in
    let run = runs laws setting history trace frames nodes new order ordered did way in
    let within = (laws.fits setting history order known ordered).width in
    let range = known.known.window_range.below in
    record {
      trigger = run.trigger;
      later = run.second ++ run.later;
      frames_are = run.all_frames;
      is_trigger = run.is_trigger;
      others = All-append (λ sent. sent.frame.identifier ≢ 0) run.second run.later
          (λ k d within none. let one = second_identifiers layout opening frames run k d within in omega arith)
          (All-weaker (λ sent. IsRequestFrame layout opening sent ⊎ IsSlotFrame layout opening sent) (λ sent. sent.frame.identifier ≢ 0) (not-first layout opening) run.later run.all);
      wide = omega arith;
    }

-- they are the frames of the event that opened the cycle
begins : (placed : List Placed) (order : Order) (frames : List TimedFrame) → Sends placed order frames → BeginsCycle order.cycle order.mask frames
begins placed order frames is = record {
  trigger = is.trigger;
  later = is.later;
  frames_are = is.frames_are;
  width = width_of (opening_of order placed);
  wide = is.wide;
  says = is.is_trigger;
  others = is.others;
}

pub its-frames : CyclesSent → (run : Bus) (new : NodesView) (order : Order) (frames : List TimedFrame) (history : List Event)
    → CanGo run → IsOrderFor run.master.rules run.master.history order → RanOrder order run.nodes new frames
    → history ≡ run.master.history ++ Open order.cycle order.mask ∷ [] → CanTellLast history frames
its-frames laws run new order frames history can ordered did is =
    let setting = can.0 in
    let going = can.2 in
    let its = begins (placed_of run.master.history) order frames
    (sends laws setting run.master.history can.1 frames run.nodes new order (subst (λ r. IsOrderFor r run.master.history order) going.same_rules ordered) did going.way) in
    record { event = Open order.cycle order.mask; ends = record { before = run.master.history; is = is }; near = tt; its = its }

-- they begin with the trigger frames that are due
pub begin-with-triggers : CyclesSent → (run : Bus) (new : NodesView) (order : Order) (frames : List TimedFrame) → CanGo run
    → IsOrderFor run.master.rules run.master.history order → RanOrder order run.nodes new frames → BeginWithTriggers run.master.rules run.master.history frames
begin-with-triggers laws run new order frames can ordered did =
    let setting = can.0 in
    let way = can.2.way in
    let rules = can.2.same_rules in
    let opening : Opening = opening_of order (placed_of run.master.history) in
    let is = runs laws setting run.master.history can.1 frames run.nodes new order (subst (λ r. IsOrderFor r run.master.history order) rules ordered) did way in
    let slots : run.master.rules.slots ≡ setting.layout.slots = ap (λ r. r.slots) rules ∙ way.known.same_slots in
    let width : order.l ≡ width_of opening =
    ordered.is.window ∙ ap (λ n. width_in (placed_of run.master.history) n (has_bit order.mask)) (sym ordered.is.cycle) in
    let all : map (λ (sent : TimedFrame). sent.frame) frames ≡ trigger_frames setting.layout opening ++ map (λ (sent : TimedFrame). sent.frame) is.later =
    ap (map (λ (sent : TimedFrame). sent.frame)) is.all_frames ∙ map-append (λ (sent : TimedFrame). sent.frame) (is.trigger ∷ is.second) is.later
    ∙ ap (λ l. l ++ map (λ (sent : TimedFrame). sent.frame) is.later) is.are_triggers in
    record {
      order = record order { learned = learned_of run.master.history };
      due = record {
        cycle = ordered.is.cycle;
        mask = ordered.is.mask;
        window = ordered.is.window;
        learned = refl;
        fits = ordered.is.fits;
        slots = ordered.is.slots;
        present = ordered.is.present;
      };
      later = map (λ (sent : TimedFrame). sent.frame) is.later;
      begin = all ∙ ap (λ s. triggers_with s order.cycle (width_of opening) order.mask ++ map (λ (sent : TimedFrame). sent.frame) is.later) (sym slots)
          ∙ ap (λ l. triggers_with run.master.rules.slots order.cycle l order.mask ++ map (λ (sent : TimedFrame). sent.frame) is.later) (sym width);
    }

-- the rows of a cycle that was run
ran-rows : (rules : Rules) (trace frames : List TimedFrame) (history : List Event) (order : Order) → IsLegal rules history → triggers_in trace ≡ next_of history
    → order.cycle ≡ next_of history → Sends (placed_of history) order frames
    → events_rows (trace ++ frames) [] (history ++ Open order.cycle order.mask ∷ []) ≡ events_rows trace [] history ++ rows_of_event (Open order.cycle order.mask) frames
ran-rows rules trace frames history order legal so_far now is =
    let zero_id : is.trigger.frame.identifier ≡ 0 = ap (λ f. f.identifier) is.is_trigger in
    let width : width_told_in (is.trigger ∷ is.later) ≡ width_of (opening_of order (placed_of history)) =
    ap (λ f. width_told f.bytes) is.is_trigger ∙ width-told order.cycle (width_of (opening_of order (placed_of history))) order.mask in
    subst (λ l. events_rows (trace ++ l) [] (history ++ Open order.cycle order.mask ∷ []) ≡ events_rows trace [] history ++ rows_of_event (Open order.cycle order.mask) l)
    (sym is.frames_are) (opened-rows rules trace is.trigger is.later history order.cycle order.mask legal so_far now zero_id is.others width)

ran-triggers : (trace frames : List TimedFrame) (placed : List Placed) (order : Order) → Sends placed order frames → triggers_in (trace ++ frames) ≡ triggers_in trace + 1
ran-triggers trace frames placed order is =
    ap (λ l. triggers_in (trace ++ l)) is.frames_are ∙ triggers-more trace is.trigger is.later (ap (λ f. f.identifier) is.is_trigger) is.others

-- a run whose next cycle was opened and run goes on, and its rows are those of the event behind those before it
pub ran : CyclesSent → (setting : Setting) (trace : List TimedFrame) (run after : Bus) (order : Order) (frames : List TimedFrame)
    → IsOrderFor run.master.rules run.master.history order → RanOrder order run.nodes after.nodes frames
    → after.master.rules ≡ run.master.rules → after.master.history ≡ run.master.history ++ Open order.cycle order.mask ∷ []
    → (IsPlainlyLegal run.master.rules run.master.history → IsPlainlyLegal after.master.rules after.master.history) → (KeepsFrames run.trace trace → KeepsFrames after.trace (trace ++ frames)) → (HaveSpare run.spare run.nodes.nodes → HaveSpare after.spare after.nodes.nodes)
    → after.master.keeps ≡ run.master.keeps → is_some after.trace ≡ is_some run.trace
    → IsGoing setting trace run → IsBroughtOn setting trace run after frames
ran laws setting trace run after order frames right did same_rules history keeps kept spared same_events same_kept going =
    let rules : after.master.rules ≡ setting.rules = same_rules ∙ going.same_rules in
    let ordered : IsOrderFor setting.rules run.master.history order = subst (λ r. IsOrderFor r run.master.history order) going.same_rules right in
    let way = way-run laws.run setting run.master.history trace frames run.nodes after.nodes order ordered did going.way in
    let sent = sends laws setting run.master.history trace frames run.nodes after.nodes order ordered did going.way in
    let next : next_of after.master.history ≡ next_of run.master.history + 1 = ap next_of history ∙ next_of-push run.master.history (Open order.cycle order.mask) in
    record {
      event = Open order.cycle order.mask;
      history = history;
      going = record {
        same_rules = rules;
        plain =
            subst (λ r. IsPlainlyLegal r after.master.history) rules
            (keeps (subst (λ r. IsPlainlyLegal r run.master.history) (sym going.same_rules) going.plain));
        way = subst (λ h. IsOnTheWay setting h (trace ++ frames) after.nodes) (sym history) way;
        triggers = ran-triggers trace frames (placed_of run.master.history) order sent ∙ ap (λ n. n + 1) going.triggers ∙ sym next;
        frames = kept going.frames;
        events = same_events ∙ going.events ∙ sym same_kept;
        spare = spared going.spare;
      };
      rows = λ before legal placed cycle.
          ran-rows setting.rules trace frames before order legal (going.triggers ∙ sym cycle) (ordered.is.cycle ∙ sym cycle)
          (subst (λ list. Sends list order frames) (sym placed) sent);
    }

-- its frames are few
pub few : (run : Bus) (frames : List TimedFrame) → CanGo run → length frames ≤ run.nodes.layout.cycle / 47 + 1 → length frames ≤ 2128
few run frames can count =
    let way = can.2.way in
    let same : run.nodes.layout.cycle ≡ can.0.layout.cycle = ap (λ layout. layout.cycle) way.ready.same_layout in
    let most = way.known.known.cycle_range.below in
    omega (arith, count, same, most)

-- A run that only made room

pub still : (run after : Bus) → after.master.rules ≡ run.master.rules → after.master.history ≡ run.master.history
    → after.master.keeps ≡ run.master.keeps
    → ((trace : List TimedFrame) → KeepsFrames run.trace trace → KeepsFrames after.trace trace) → is_some after.trace ≡ is_some run.trace
    → after.nodes.layout ≡ run.nodes.layout → states_of after.nodes.nodes ≡ states_of run.nodes.nodes
    → ((setting : Setting) (trace : List TimedFrame) → IsGoing setting trace run → HaveSpare after.spare after.nodes.nodes) → GoesStill run after
still run after rules history events frames kept layout states spare = record {
  same = history;
  kept = kept;
  going = λ setting trace going. record {
    same_rules = rules ∙ going.same_rules;
    plain = subst (IsPlainlyLegal setting.rules) (sym history) going.plain;
    way = subst (λ h. IsOnTheWay setting h trace after.nodes) (sym history)
        (way-same setting run.master.history trace run.nodes after.nodes layout states going.way);
    triggers = going.triggers ∙ ap next_of (sym history);
    frames = frames trace going.frames;
    events = events ∙ going.events ∙ sym kept;
    spare = spare setting trace going;
  };
}

-- nodes that can learn so many entries without memory can learn fewer
pub less-spare : (entries spare : ℕ) (nodes : List NodeView) → entries ≤ spare → HaveSpare spare nodes → HaveSpare entries nodes
less-spare entries spare nodes fewer have = All-weaker (λ node. spare ≤ node.spare) (λ node. entries ≤ node.spare) (λ node room. omega arith) nodes have

-- A run of no calls yet

pub begins-going : (setting : Setting) (bus : Bus) → IsSetting setting → IsUnderWay setting [] [] → AreNodesReady setting [] [] bus.nodes
    → bus.master.rules ≡ setting.rules → bus.master.history ≡ [] → KeepsFrames bus.trace [] → bus.master.keeps ≡ is_some bus.trace
    → bus.spare ≡ 0 → IsGoing setting [] bus
begins-going setting bus known way ready rules empty frames events none = record {
  same_rules = rules;
  plain = subst (IsPlainlyLegal setting.rules) (sym empty) (record { legal = tt; now = tt });
  way = subst (λ h. IsOnTheWay setting h [] bus.nodes) (sym empty) (record { known = known; under_way = way; ready = ready });
  triggers = sym (ap next_of empty);
  frames = frames;
  events = events;
  spare = λ k d within. omega (arith, none);
}
