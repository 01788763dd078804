use Rattle.std.proofs.Common.{◌≡◌, ◌++◌, ◌∷◌, [], List, length, drop, sym, subst, arith}
use Rattle.live_run.specs.declared.script.Script.{Script}
use Rattle.live_steps.specs.Parts.{AreScripts}
use Rattle.live_steps.proofs.Parts.{counts-more, counts-same, scripts-more, scripts-same, whole}
use Rattle.live_steps.proofs.parting.part.Goals as goal

pub loop-step-preserved-in-Cycle : goal.loop-step-preserved-in-Cycle
loop-step-preserved-in-Cycle c =
    let before = c.loop-step.invariant in
    record {
      can_next = tt;
      is_finite = tt;
      cycles = counts-more c.loop-step.yielded c.in-Some.step c.loop-step.cycles c.in-Cycle.count c.in-Cycle.is before.cycles;
      scripts = scripts-same c.loop-step.yielded c.in-Some.step c.in-Cycle.count c.loop-step.scripts.items c.in-Cycle.is before.scripts;
    }

pub loop-step-preserved : goal.loop-step-preserved
loop-step-preserved c =
    let before = c.loop-step.invariant in
    let step = c.in-Some.step in
    let new = c.add_act.new.scripts in
    let old : AreScripts c.loop-step.yielded c.as_mut_slice.result.now =
    subst (λ (l : List Script). AreScripts c.loop-step.yielded l) (sym c.as_mut_slice.ensures.value) before.scripts in
    let more = scripts-more c.loop-step.yielded step c.in-Act.caller c.in-Act.act c.as_mut_slice.result.now new c.in-Act.is old
    c.in_ok-add_act-in-Act.ensures.count c.in_ok-add_act-in-Act.ensures.added in
    let long : c.loop-step.scripts.len ≡ length new =
    omega (arith, c.loop-step.scripts.ok.0, before.scripts.count, more.count) in
    record {
      can_next = tt;
      is_finite = tt;
      cycles = counts-same c.loop-step.yielded step c.loop-step.cycles c.in-Act.caller c.in-Act.act c.in-Act.is before.cycles;
      scripts = subst (λ (l : List Script). AreScripts (c.loop-step.yielded ++ step ∷ []) l)
          (sym (whole c.loop-step.scripts.len new (drop (length new) c.loop-step.scripts.items) long)) more;
    }
