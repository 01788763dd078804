use Rattle.std.proofs.Common.{◌≡◌, ◌<◌, ◌∙◌, List, All, refl, sym, ap, subst, arith}
use Rattle.std.specs.List.{Any}
use Rattle.std.proofs.lemmas.Result.{IfOk-weaker}
use Rattle.async_window.specs.Owners.{AreOwners}
use Rattle.async_window.specs.declared.request.Owner.{Owner}
use Rattle.kept_run.specs.Kept.{Kept}
use Rattle.live_run.specs.Left.{left_of}
use Rattle.replay_run.specs.Run.{setting_of}
use Rattle.replay_run.proofs.Shared.{is_rules, owner-of}
use Rattle.live_steps.proofs.Lives.{answers-operators}
use Rattle.live_steps.proofs.running.live.Goals as goal

pub run_whole-requires : goal.run_whole-requires
run_whole-requires g c κs within =
    let system = c.requires.system in
    let requests = c.requires.requests in
    let parted = c.in_ok-parts.ensures.parted in
    let owners = c.args.system.now.owners in
    let same = sym c.as_slice.ensures.list in (
      within.0,
      (
        within.1,
        (
          c.type_bounds.sync-T,
          (
            c.type_bounds.sync-G,
            (
              refl,
              (
                is_rules c.args.system.now system,
                (
                  system.same_window,
                  (
                    system.same_slots,
                    (
                      subst (λ l. AreOwners l) same system.are_owners,
                      (
                        subst (λ l. All (λ owner. owner.node < c.args.system.now.rules.nodes) l) same system.known_nodes,
                        (
                          subst (λ l. All (λ request. Any (λ owner. owner.id ≡ request.frame.identifier) l) c.args.requests.now) same
                              (λ k d less. owner-of owners _ (requests.each k d less).owned),
                          (
                            requests.in_order,
                            (
                              λ k d less. (requests.each k d less).early,
                              (omega (arith, parted.cycles, c.requires.steps.cycles), omega (arith, parted.scripts.count)),
                            ),
                          ),
                        ),
                      ),
                    ),
                  ),
                ),
              ),
            ),
          ),
        ),
      ),
    )

pub returns-clause-run : goal.returns-clause-run
returns-clause-run g c =
    let parted = c.in_ok-parts.ensures.parted in
    IfOk-weaker c.run_whole.result _ _ (λ ended run. record {
      answers = answers-operators c.args.steps.items c.in_ok-parts.parts.cycles c.in_ok-parts.parts.scripts.items ended.master.history
          c.events_in_histories.ensures.calls parted.cycles parted.scripts run.answers;
      kept = subst (λ (owners : List Owner). Kept (record (setting_of c.args.system.now c.args.requests.now) { owners = owners }) ended.master.history ended.run.trace)
          c.as_slice.ensures.list run.kept;
    }) c.run_whole.ensures.run

pub returns-clause-left : goal.returns-clause-left
returns-clause-left g c =
    IfOk-weaker c.run_whole.result _ _
    (λ ended left. left ∙ ap (λ (owners : List Owner). left_of owners c.args.requests.now ended.run.trace) c.as_slice.ensures.list)
    c.run_whole.ensures.left
