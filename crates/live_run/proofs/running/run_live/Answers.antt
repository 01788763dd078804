use Rattle.std.proofs.Common.{◌≡◌, ◌≤◌, ◌∙◌, ℕ, List, All, Contains, length, drop, true, sym, ap, subst, arith}
use Rattle.std.proofs.lemmas.List.Elements.{All-nil}
use Rattle.turn_lock.specs.declared.view.View.{View}
use Rattle.turn_lock.specs.Passes.{IsOfLock, Known}
use Rattle.admission_rules.specs.declared.Rules.{Rules}
use Rattle.master_core.specs.declared.event.Event.{Event}
use Rattle.live_run.specs.declared.crew.Operator.{Operator}
use Rattle.live_run.specs.declared.script.Script.{Script}
use Rattle.live_run.specs.Crew.{AreDone}
use Rattle.can_frame.specs.declared.data_frame.TimedFrame.{TimedFrame}
use Rattle.cycle_engine.specs.Nodes.{states_of}
use Rattle.master_core.specs.History.{next_of}
use Rattle.live_run.specs.Left.{left_at, numbers_of}
use Rattle.live_run.proofs.Lefts.{left_in_at}
use Rattle.live_run.proofs.Runs.{begun, can_begin, done-few, done-stand, left-behind, whole}
use Rattle.live_run.proofs.running.run_live.Goals as goal

pub share-ran-requires-clause-running : goal.share-ran-requires-clause-running
share-ran-requires-clause-running g c =
    let (of_t, (of_g, (sync_t, (sync_g, (known, (rules, (first, (fresh, (few, eight))))))))) = c.requires in
    λ lifetimes bounds. can_begin (record { under_way = c.beginning.ensures.under_way; ready = c.beginning.ensures.ready })
    g.setting c.args.shared.now c.hire.new.pass.view.seen (record { nodes = c.args.nodes; trace = c.new.result })
    known rules (ap (λ (v : View Event Rules). v.seen) c.in_ok-operators.ensures.lent ∙ ap (λ (k : Known Event Rules). k.view.seen) first.is) fresh c.new.ensures.items

pub retire_all-answered-requires-clause-operators : goal.retire_all-answered-requires-clause-operators
retire_all-answered-requires-clause-operators g c =
    let operators = c.share-ran.new.operators in
    let long : c.in_ok-operators.operators.len ≡ length operators =
    omega (arith, c.share-ran.ensures.length, c.as_mut_slice.ensures.len, c.in_ok-operators.operators.ok.0) in
    let done : AreDone c.args.shared.now c.args.scripts.items operators =
    subst (λ (l : List Script). AreDone c.args.shared.now l operators) c.as_slice.ensures.value c.share-ran.ensures.done in
    let same : length c.args.scripts.items ≡ length operators =
    omega (arith, c.in_ok-operators.ensures.count, c.len.ensures, c.args.scripts.ok.0, long) in
    subst (λ (l : List Operator). All (λ (o : Operator). IsOfLock c.args.shared.now o.pass) l)
    (sym (whole c.in_ok-operators.operators.len operators (drop (length operators) c.in_ok-operators.operators.items) long))
    (λ k d within. (done-stand c.args.shared.now c.args.scripts.items operators same done k d within).ready.0)

pub returns-clause-run : goal.returns-clause-run
returns-clause-run g c =
    let (of_t, (of_g, (sync_t, (sync_g, (known, (rules, (first, (fresh, (few, eight))))))))) = c.requires in
    let operators = c.share-ran.new.operators in
    let long : c.in_ok-operators.operators.len ≡ length operators =
    omega (arith, c.share-ran.ensures.length, c.as_mut_slice.ensures.len, c.in_ok-operators.operators.ok.0) in
    let done : AreDone c.args.shared.now c.args.scripts.items operators =
    subst (λ (l : List Script). AreDone c.args.shared.now l operators) c.as_slice.ensures.value c.share-ran.ensures.done in
    let same : length c.args.scripts.items ≡ length operators =
    omega (arith, c.in_ok-operators.ensures.count, c.len.ensures, c.args.scripts.ok.0, long) in
    let entire = whole c.in_ok-operators.operators.len operators (drop (length operators) c.in_ok-operators.operators.items) long in
    let lent = c.in_ok-operators.ensures.lent in
    let stays = c.share-ran.ensures.stays in
    let running = begun (record { under_way = c.beginning.ensures.under_way; ready = c.beginning.ensures.ready })
    g.setting c.args.shared.now c.hire.new.pass.view.seen (record { nodes = c.args.nodes; trace = c.new.result })
    known rules (ap (λ (v : View Event Rules). v.seen) lent ∙ ap (λ (k : Known Event Rules). k.view.seen) first.is) fresh c.new.ensures.items in
    let all_made : c.retire_all-answered.new.pass.view.made ≡ length c.args.scripts.items =
    c.retire_all-answered.ensures.made ∙ (stays.made ∙ (let m = ap (λ (v : View Event Rules). v.made) lent in let f = ap (λ (k : Known Event Rules). k.view.made) first.is in
    omega (arith, c.len.ensures, c.args.scripts.ok.0))) in
    left-behind (record {
      between = record { under_way = c.calls_between.ensures.under_way; ready = c.calls_between.ensures.ready };
      promises = record { kept = c.promise.ensures.kept };
      openings = c.openings_of_dispatchers.ensures.openings;
      cycles = c.openings_of_dispatchers.ensures.cycles;
    }) g.setting c.args.shared.now c.args.cycles c.args.scripts.items operators c.share-ran.new.pass c.retire_all-answered.new.pass c.share-ran.new.bus
    (record { trace = c.of.result; left = c.left-left.result })
    known rules (c.in_ok-ran.ensures.running g.setting running) c.share-ran.ensures.standing c.retire_all-answered.ensures.standing
    (stays.number ∙ (ap (λ (v : View Event Rules). v.number) lent ∙ ap (λ (k : Known Event Rules). k.view.number) first.is))
    c.retire_all-answered.ensures.number c.retire_all-answered.ensures.mine c.retire_all-answered.ensures.begins c.in_ok-ran.ensures.cycles
    same done
    (subst (λ (l : List Operator). All (λ (o : Operator). Contains c.retire_all-answered.new.pass.view.ended (o.pass.view.number, o.pass.view.mine)) l) entire
    c.retire_all-answered.ensures.ended)
    (subst (λ (l : List Operator). All (λ (o : Operator). o.answered ≡ true) l) entire (c.retire_all-answered.ensures.answered (grind arith)))
    all_made c.retire_all-answered.ensures.out
    (c.retire_all-answered.ensures.few (length c.args.scripts.items)
    (subst (λ (l : List (ℕ × List Event)). All (λ (entry : ℕ × List Event). entry.0 ≤ length c.args.scripts.items) l)
    (sym (stays.ended ∙ (ap (λ (v : View Event Rules). v.ended) lent ∙ ap (λ (k : Known Event Rules). k.view.ended) first.is))) (All-nil (λ (entry : ℕ × List Event). entry.0 ≤ length c.args.scripts.items)))
    (subst (λ (l : List Operator). All (λ (o : Operator). o.pass.view.number ≤ length c.args.scripts.items) l)
    (sym (whole c.in_ok-operators.operators.len operators (drop (length operators) c.in_ok-operators.operators.items) long))
    (done-few c.args.shared.now c.args.scripts.items operators same done)))
    c.of.ensures.list c.left-left.ensures.left

pub returns-clause-left : goal.returns-clause-left
returns-clause-left g c =
    let (of_t, (of_g, (sync_t, (sync_g, (known, (rules, (first, (fresh, (few, eight))))))))) = c.requires in
    let lent = c.in_ok-operators.ensures.lent in
    let begun = begun (record { under_way = c.beginning.ensures.under_way; ready = c.beginning.ensures.ready })
    g.setting c.args.shared.now c.hire.new.pass.view.seen (record { nodes = c.args.nodes; trace = c.new.result })
    known rules (ap (λ (v : View Event Rules). v.seen) lent ∙ ap (λ (k : Known Event Rules). k.view.seen) first.is) fresh c.new.ensures.items in
    let running = c.in_ok-ran.ensures.running g.setting begun in
    let bus = c.share-ran.new.bus in
    let ready = running.way.ready in
    let at : List TimedFrame → List ℕ → ℕ = left_at g.setting.owners g.setting.requests in
    c.left-left.ensures.left
    ∙ (left_in_at g.setting.layout g.setting.owners g.setting.requests ready.known bus.trace.items (next_of c.share-ran.new.pass.view.seen)
    (states_of bus.nodes.nodes) ready.bus.stand
    ∙ (ap (λ numbers. at bus.trace.items numbers) c.share-ran.ensures.numbers
    ∙ ap (λ (trace : List TimedFrame). at trace (numbers_of (states_of c.args.nodes.nodes))) (sym c.of.ensures.list)))
