use Rattle.std.proofs.Common.{arith}
use Rattle.text_fields.specs.PlainRows.{is_plain}
use Rattle.text_fields.proofs.LaneBits.{all-run}
use Rattle.text_fields.proofs.records.plain_run.Goals as goal

pub returns-clause-plain : goal.returns-clause-plain
returns-clause-plain c = all-run c.args.text.now c.plain_lanes.result (omega (arith, c.if-text-lt-LANES.false, c.plain_lanes.ensures.few)) is_plain c.plain_lanes.ensures.plain
