-- One row more.
use Rattle.std.specs.String.{string_bytes}
use Rattle.admission.specs.declared.verdict.Verdict.{Verdict}
use Rattle.admission.specs.declared.verdict.Verdict.TheVariants.{Malformed}
use Rattle.change_protocol.specs.declared.malformed.Why.TheVariants.{NoOps}
use Rattle.elastic.proofs.TriedRows.{tried-next}
use Rattle.elastic.proofs.choice_rows.push_all_tried.Goals as goal

abbrev nothing : Verdict
nothing = Malformed 0 NoOps

pub loop-number-preserved : goal.loop-number-preserved
loop-number-preserved c =
    tried-next c.args.verdicts.now c.loop-number.number nothing
    (string_bytes c.args.text.now) (string_bytes c.loop-number.text) (string_bytes c.push_tried.new.text)
    c.loop-number-test.true c.loop-number.invariant c.in_ok-push_tried.ensures.ok
