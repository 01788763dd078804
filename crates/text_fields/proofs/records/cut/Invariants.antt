use Rattle.std.proofs.Common.{◌-◌}
use Rattle.text_fields.proofs.PlainCuts.{IsCutting}
use Rattle.text_fields.proofs.records.cut.Given as goal

abbrev pub invariant-loop-count : goal.invariant-loop-count
invariant-loop-count l = IsCutting l.fn.line l.parts l.count l.left

abbrev pub decreases-loop-count : goal.decreases-loop-count
decreases-loop-count l = 16 - l.count
