-- A run on the way is so with another legal history that has the same core.
use Rattle.std.proofs.Common.{◌≡◌, ℕ, ◌*◌, ◌≤◌, false, true, List, [], Option, Some, None, All, is_some, sym, ap, ◌∙◌, subst}
use Rattle.can_frame.specs.declared.data_frame.TimedFrame.{TimedFrame}
use Rattle.requirement_table.specs.declared.entries.Order.{Order}
use Rattle.requirement_table.specs.declared.entries.Placed.{Placed}
use Rattle.requirement_table.specs.Opening.{Opening}
use Rattle.admission_rules.specs.declared.Rules.{Rules}
use Rattle.bus_line.specs.Trace.{end_of}
use Rattle.cycle_engine.specs.Cycle.{RunsCycles}
use Rattle.cycle_engine.specs.Nodes.{IsBus, NodesView, states_of}
use Rattle.cycle_engine.specs.Offered.{IsCanTrace}
use Rattle.master_core.specs.declared.event.Event.{Event}
use Rattle.master_core.specs.History.{IsLegal, IsPlainlyLegal, is_changed, next_of, placed_of}
use Rattle.master_core.specs.Journals.{LeanView}
use Rattle.master_core.specs.Openings.{openings_of}
use Rattle.master_core.specs.Orders.{IsOrder, StandsFor}
use Rattle.trigger_kind.specs.Kind.{IsSlots}
use Rattle.system_file.specs.SystemFile.{IsSystem}
use Rattle.system_file.specs.declared.system.System.{System}
use Rattle.kept_run.specs.Progress.{AreNodesReady, IsUnderWay}
use Rattle.kept_run.specs.Setting.{Setting}
use Rattle.replay_run.specs.declared.bus.Bus.{Bus}
use Rattle.replay_run.specs.Progress.{GoesStill, IsGoing}
use Rattle.standby.specs.Core.{core_of}
use Rattle.standby.specs.Following.{StandbyView}
use Rattle.handover_run.specs.declared.handed.Handed.{Handed}
use Rattle.handover_run.specs.Following.{IsFollowing, IsStillFollowing}
use Rattle.handover_run.specs.Handed.{IsHanded}
use Rattle.replay_run.specs.Runs.{CanRun, RunsStill}

-- what is worked out of the core of a history
pub record OneCore : Type 0 where
  pub placed : (one other : List Event) → core_of one ≡ core_of other → placed_of one ≡ placed_of other
  pub next : (one other : List Event) → core_of one ≡ core_of other → next_of one ≡ next_of other
  pub changed : (one other : List Event) → core_of one ≡ core_of other → is_changed one ≡ is_changed other
  pub openings : (one other : List Event) → core_of one ≡ core_of other → openings_of one ≡ openings_of other
  pub order : (rules : Rules) (one other : List Event) (order : Order) → core_of one ≡ core_of other → IsOrder rules one order
      → IsOrder rules other order

module _ (laws : OneCore) where
  pub under-way-behind : (setting : Setting) (one other : List Event) (trace : List TimedFrame) → core_of one ≡ core_of other
      → IsLegal setting.rules other → IsUnderWay setting one trace → IsUnderWay setting other trace
  under-way-behind setting one other trace same legal way =
      let next : next_of one ≡ next_of other = laws.next one other same in
      let openings : openings_of one ≡ openings_of other = laws.openings one other same in
      record {
        legal = legal;
        can_trace = subst (λ (l : List Opening). IsCanTrace setting.sends setting.layout setting.requests l (next_of other) trace) openings
            (subst (λ (n : ℕ). IsCanTrace setting.sends setting.layout setting.requests (openings_of one) n trace) next way.can_trace);
        ended = subst (λ (n : ℕ). All (λ sent. end_of sent ≤ n * setting.layout.cycle) trace) next way.ended;
        cycles = subst (λ (l : List Opening). RunsCycles setting.sends setting.layout l trace) openings way.cycles;
      }

  ready-behind : (setting : Setting) (one other : List Event) (trace : List TimedFrame) (nodes : NodesView) → core_of one ≡ core_of other
      → AreNodesReady setting one trace nodes → AreNodesReady setting other trace nodes
  ready-behind setting one other trace nodes same ready = record {
    same_layout = ready.same_layout;
    same_bytes = ready.same_bytes;
    numbers = ready.numbers;
    known = ready.known;
    bus = subst (λ (n : ℕ). IsBus setting.layout setting.owners setting.requests ready.known trace n (states_of nodes.nodes)) (laws.next one other same) ready.bus;
    up_to_date = λ is.
        subst (λ (n : ℕ). StandsFor n (placed_of other) ready.known) (laws.next one other same)
        (subst (λ (l : List Placed). StandsFor (next_of one) l ready.known) (laws.placed one other same) (ready.up_to_date (laws.changed one other same ∙ is)));
  }

  -- a run goes on with another master whose history has the core of the first one's
  pub going-behind : (setting : Setting) (trace : List TimedFrame) (run : Bus) (master : LeanView) → core_of run.master.history ≡ core_of master.history
      → master.rules ≡ setting.rules → IsPlainlyLegal setting.rules master.history → master.keeps ≡ is_some run.trace → IsGoing setting trace run
      → IsGoing setting trace (record run { master = master })
  going-behind setting trace run master same rules plain events going = record {
    same_rules = rules;
    plain = plain;
    way = record {
      known = going.way.known;
      under_way = under-way-behind setting run.master.history master.history trace same plain.legal going.way.under_way;
      ready = ready-behind setting run.master.history master.history trace run.nodes same going.way.ready;
    };
    triggers = going.triggers ∙ laws.next run.master.history master.history same;
    frames = going.frames;
    events = events;
    spare = going.spare;
  }

  -- the standby takes over
  pub taken-over : (run : Handed) (standby : StandbyView) (master : LeanView) → run.standby ≡ Some standby → master.rules ≡ standby.rules
      → master.history ≡ standby.history → IsPlainlyLegal master.rules master.history → master.keeps ≡ false
      → RunsStill IsHanded run (record run { bus = record run.bus { master = master }; standby = None })
  taken-over run standby master there rules history plain keeps = λ setting whole trace is.
      let follows : IsFollowing setting.rules whole standby = subst (IsStillFollowing setting.rules whole) there is.followed in
      let same_rules : master.rules ≡ setting.rules = rules ∙ follows.same_rules in
      let same : core_of whole ≡ core_of master.history = follows.same_core ∙ ap core_of (sym history) in
      record {
        going = going-behind setting trace run.bus master (sym is.same_core ∙ same) same_rules
            (subst (λ (r : Rules). IsPlainlyLegal r master.history) same_rules plain) (keeps ∙ sym is.unkept) is.going;
        unkept = is.unkept;
        plain = is.plain;
        under_way = is.under_way;
        same_core = same;
        followed = tt;
        quiet = is.quiet;
      }

  -- and the next cycle is that of the first master
  pub next-taken-over : (run : Handed) (standby : StandbyView) (master : LeanView) → run.standby ≡ Some standby → master.history ≡ standby.history
      → CanRun IsHanded run → next_of master.history ≡ next_of run.bus.master.history
  next-taken-over run standby master there history can =
      let is = can.3 in
      let follows : IsFollowing can.0.rules can.1 standby = subst (IsStillFollowing can.0.rules can.1) there is.followed in
      let same : core_of can.1 ≡ core_of master.history = follows.same_core ∙ ap core_of (sym history) in
      laws.next master.history run.bus.master.history (sym same ∙ is.same_core)

-- a run that only made room
pub still-handed : (setting : Setting) (whole : List Event) (trace : List TimedFrame) (run : Handed) (between : Bus) → GoesStill run.bus between
    → IsHanded setting whole trace run → IsHanded setting whole trace (record run { bus = between })
still-handed setting whole trace run between still is = record {
  going = still.going setting trace is.going;
  unkept = still.kept ∙ is.unkept;
  plain = is.plain;
  under_way = is.under_way;
  same_core = is.same_core ∙ ap core_of (sym still.same);
  followed = is.followed;
  quiet = is.quiet;
}

-- a run of no calls yet
pub begins-handed : (setting : Setting) (run : Handed) (standby : StandbyView) → IsGoing setting [] run.bus → is_some run.bus.trace ≡ false
    → run.bus.master.history ≡ [] → run.standby ≡ Some standby → standby.rules ≡ setting.rules → standby.history ≡ [] → run.quiet ≡ true → IsHanded setting [] [] run
begins-handed setting run standby going unkept empty there rules none quiet = record {
  going = going;
  unkept = unkept;
  plain = record { legal = tt; now = tt };
  under_way = subst (λ (h : List Event). IsUnderWay setting h []) empty going.way.under_way;
  same_core = ap core_of (sym empty);
  followed = subst (λ (s : Option StandbyView). IsStillFollowing setting.rules [] s) (sym there) (record { same_rules = rules; same_core = ap core_of (sym none) });
  quiet = quiet;
}

-- the number of slots of a system is one of a standby's
pub is-slots : (system : System) → IsSystem system → IsSlots system.rules.slots
is-slots system is = subst IsSlots (sym is.same_slots) is.layout.slots_range
