use Rattle.std.proofs.Common.{◌++◌, map, ap, ◌∙◌}
use Rattle.plan_check.specs.declared.plan_runs.Version.TheVariants.{Two}
use Rattle.plan_check.specs.PlanText.{run_line, runs_of, text_of}
use Rattle.plan_check.proofs.TextLines.{whole_text}
use Rattle.plan_check.proofs.plan_text.write_plan.Goals as goal

pub returns : goal.returns
returns c = record {
  text = whole_text c.args.certificate.now c.new-text.result.items c.push_head.new.text.items c.push_runs.new.text.items
      c.extend_from_slice.new.self.items c.new-text.ensures.items c.in_ok-push_head.ensures.ok
      (c.in_ok-push_runs.ensures.ok ∙ ap (λ masks. c.push_head.new.text.items ++ text_of (map (run_line Two) (runs_of masks))) c.masks.ensures.list)
      c.in_ok-extend_from_slice.ensures.items;
}
