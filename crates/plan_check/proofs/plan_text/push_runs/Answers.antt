use Rattle.std.proofs.Common.{◌++◌, map, ap, sym, ◌∙◌}
use Rattle.std.proofs.lemmas.List.{append-nil}
use Rattle.plan_check.specs.declared.plan_runs.Version.TheVariants.{Two}
use Rattle.plan_check.specs.PlanText.{run_line, text_of}
use Rattle.plan_check.proofs.Runs.{no-runs}
use Rattle.plan_check.proofs.plan_text.push_runs.Goals as goal

pub returns : goal.returns
returns c =
    let none = no-runs c.args.masks.now c.loop-start.start c.loop-start-test.false c.loop-start.invariant.within in
    record {
      ok = sym (append-nil (c.loop-start.text.items))
          ∙ ap (λ runs. c.loop-start.text.items ++ text_of (map (run_line Two) runs)) (sym none)
          ∙ c.loop-start.invariant.text;
    }
