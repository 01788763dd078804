use Rattle.std.proofs.Common.{◌≡◌, subst, take, true}
use Rattle.std.specs.List.{list_all}
use Rattle.text_fields.specs.PlainRows.{is_plain}
use Rattle.text_fields.proofs.LaneBits.{all-both}
use Rattle.text_fields.proofs.records.field_end.Goals as goal

pub returns-clause-plain : goal.returns-clause-plain
returns-clause-plain c = all-both c.args.text.now c.plain_run-run.result c.plain_end.result is_plain c.plain_run-run.ensures.plain
    (subst (λ l. list_all is_plain (take c.plain_end.result l) ≡ true) c.split_at.ensures.back c.plain_end.ensures.plain)
