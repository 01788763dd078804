use Rattle.std.proofs.Common.{◌≡◌, ◌∙◌, ◌+◌, List, Some, length, slice_index_or, refl, sym, ap, subst, arith}
use Rattle.std.specs.Prelude.{slice_get}
use Rattle.cycle_engine.specs.Nodes.{states_of}
use Rattle.node_model.specs.Node.{NodeState, fresh_node}
use Rattle.turn_lock.specs.History.{own}
use Rattle.turn_lock.specs.Passes.{first_view}
use Rattle.master_core.specs.declared.event.Event.{Event}
use Rattle.master_core.specs.History.{next_of}
use Rattle.kept_run.specs.Kept.{Kept}
use Rattle.kept_run.specs.Setting.{IsSetting, Setting}
use Rattle.live_master.specs.Callers.{number_of}
use Rattle.live_run.specs.Answers.{AnswersActs}
use Rattle.live_run.specs.Live.{AreFresh, AreRequestsLeft, IsFirstPass}
use Rattle.live_run.specs.Left.{left_at, numbers_of}
use Rattle.live_run.proofs.Lefts.{left_at_of, numbered}
use Rattle.live_run.proofs.Whole.{calls-of-few}
use Rattle.live_run.proofs.closing.run_whole.Goals as goal

pub run_live-requires : goal.run_live-requires
run_live-requires g c κs within =
    let (of_t, (of_g, (sync_t, (sync_g, (given, (of_rules, (window, (slots, (of_owners, (numbers, (owned, (arrivals, (early, (few, eight)))))))))))))) = c.requires in
    let setting : IsSetting g.setting = subst (λ (s : Setting). IsSetting s) (sym given) (record {
      known = c.is_in_range.ensures.known;
      same_window = window;
      same_slots = slots;
      asynchronous = c.requests_of_owners.ensures.asynchronous c.args.owners.now c.args.requests.now of_owners owned;
    }) in
    let nodes : AreFresh g.setting c.in_ok-nodes.nodes = subst (λ (s : Setting). AreFresh s c.in_ok-nodes.nodes) (sym given) (record {
      same_layout = c.in_ok-nodes.ensures.layout;
      same_bytes = refl;
      bus = c.in_ok-nodes.ensures.bus;
      numbers = c.in_ok-nodes.ensures.numbers;
    }) in
    let rules : c.in_ok-shared.shared.fixed ≡ g.setting.rules = c.in_ok-shared.ensures.rules ∙ ap (λ (s : Setting). s.rules) (sym given) in
    let pass : IsFirstPass c.in_ok-shared.shared c.in_ok-shared.pass = record {
      is = c.in_ok-shared.ensures.pass
          ∙ ap (λ f. record { table = c.in_ok-shared.shared.table; view = first_view f }) (sym c.in_ok-shared.ensures.rules);
      standing = c.in_ok-shared.ensures.standing;
    } in
    (within.0, (within.1, (sync_t, (sync_g, (setting, (rules, (pass, (nodes, (few, eight)))))))))

pub returns-clause-run : goal.returns-clause-run
returns-clause-run g c =
    let (of_t, (of_g, (sync_t, (sync_g, (given, (of_rules, (window, (slots, (of_owners, (numbers, (owned, (arrivals, (early, (few, eight)))))))))))))) = c.requires in
    let run = c.in_ok-run.ensures.run in
    let v = c.run_live.new.pass.view in
    let closed = c.close-master.result in
    let same : closed.history ≡ v.seen = c.close-master.ensures.history in
    let scripts = c.args.scripts.items in
    record {
      rules = c.close-master.ensures.rules ∙ (c.in_ok-shared.ensures.rules ∙ ap (λ (s : Setting). s.rules) (sym given));
      kept = subst (λ (h : List Event). Kept g.setting h c.in_ok-run.run'.trace) (sym same) run.kept;
      answers = record {
        opened = ap next_of same ∙ run.opened;
        answered = λ k d within.
            let one = run.answered k d within in
            let acts = (slice_index_or scripts k d).acts in
            subst (λ (h : List Event). AnswersActs (k + 1) acts (own number_of (k + 1) h)) (sym same)
            (subst (λ (calls : List Event). AnswersActs (k + 1) acts calls) (sym one.all) one.answers);
        others = calls-of-few (length scripts) closed.history v run.dispatcher c.close-master.ensures.calls run.numbers;
      };
      left = subst (λ (h : List Event). AreRequestsLeft g.setting h c.in_ok-run.run') (sym same) run.left;
    }

pub returns-clause-left : goal.returns-clause-left
returns-clause-left g c =
    let (of_t, (of_g, (sync_t, (sync_g, (given, (of_rules, (window, (slots, (of_owners, (numbers, (owned, (arrivals, (early, (few, eight)))))))))))))) = c.requires in
    let owners = c.args.owners.now in
    let requests = c.args.requests.now in
    let trace = c.in_ok-run.run'.trace in
    let nodes = states_of c.in_ok-nodes.nodes.nodes in
    let of_setting = ap (λ (s : Setting). left_at s.owners s.requests trace (numbers_of nodes)) given in
    let numbered = numbered (λ (node : NodeState). node.number) (λ k. fresh_node c.args.layout owners requests k) nodes 0 c.args.rules.nodes
    (λ k. refl) c.in_ok-nodes.ensures.count
    (λ k i less same. subst (λ n. slice_get nodes k ≡ Some (fresh_node c.args.layout owners requests n)) (omega (arith, same))
    (c.in_ok-nodes.ensures.each k less)) in
    c.in_ok-run.ensures.left
    ∙ (of_setting ∙ (ap (λ l. left_at owners requests trace l) numbered
    ∙ left_at_of requests trace owners c.args.rules.nodes numbers))
