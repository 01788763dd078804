use Rattle.std.proofs.Common.{◌≡◌, ◌<◌, ◌≤◌, ◌∙◌, [], ℕ, refl, sym, ap, length, arith, subst}
use Rattle.requirement_table.specs.Instance.{bytes_of}
use Rattle.cycle_engine.specs.Nodes.{IsBus, states_of}
use Rattle.cycle_layout.specs.Layout.{CycleLayout, IsLayout}
use Rattle.admission_rules.specs.declared.Rules.{Rules}
use Rattle.turn_lock.specs.Passes.{first_view}
use Rattle.kept_run.specs.Setting.{IsSetting}
use Rattle.live_run.specs.Live.{AreFresh, IsFirstPass}
use Rattle.command_cases.proofs.lone.run.Goals as goal

pub run_live-requires : goal.run_live-requires
run_live-requires g c κs within =
    let few : length c.push.new.self.items ≤ 8 = omega (arith, c.push.new.self.ok.0, c.in_ok-push.ensures.len, c.new-scripts.ensures.len) in
    let layout = c.in_ok-nodes.ensures.layout in
    let rules = c.in_ok-shared.ensures.rules in
    let setting : IsSetting (record { rules = c.in_ok-shared.shared.fixed; layout = c.in_ok-nodes.nodes.layout; owners = []; requests = []; sends = bytes_of }) = record {
      known = subst (λ (l : CycleLayout). IsLayout l) (sym layout) c.is_in_range.ensures.known;
      same_window =
          ap (λ (r : Rules). r.window) rules
          ∙ c.rules.ensures.window
          ∙ sym (ap (λ (l : CycleLayout). l.window) (layout ∙ c.in-Ok.ensures.layout));
      same_slots =
          ap (λ (r : Rules). r.slots) rules
          ∙ c.rules.ensures.slots
          ∙ sym (ap (λ (l : CycleLayout). l.slots) (layout ∙ c.in-Ok.ensures.layout));
      asynchronous = λ k d none. absurd (omega arith);
    } in
    let pass : IsFirstPass c.in_ok-shared.shared c.in_ok-shared.pass = record {
      is = c.in_ok-shared.ensures.pass ∙ ap (λ f. record { table = c.in_ok-shared.shared.table; view = first_view f }) (sym rules);
      standing = c.in_ok-shared.ensures.standing;
    } in
    let nodes : AreFresh (record { rules = c.in_ok-shared.shared.fixed; layout = c.in_ok-nodes.nodes.layout; owners = []; requests = []; sends = bytes_of }) c.in_ok-nodes.nodes = record {
      same_layout = refl;
      same_bytes = refl;
      bus = subst (λ (l : CycleLayout). IsBus l [] [] [] [] 0 (states_of c.in_ok-nodes.nodes.nodes)) (sym layout) c.in_ok-nodes.ensures.bus;
      numbers = λ number less.
          c.in_ok-nodes.ensures.numbers number (subst (λ (n : ℕ). number < n) (ap (λ (r : Rules). r.nodes) rules ∙ c.rules.ensures.nodes) less);
    } in
    (within.0, (within.1, (c.type_bounds.sync-T, (c.type_bounds.sync-G, (setting, (refl, (pass, (nodes, (c.requires.cycles, few)))))))))
