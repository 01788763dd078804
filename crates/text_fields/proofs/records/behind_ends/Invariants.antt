use Rattle.std.proofs.Common.{◌≡◌, length}
use Rattle.text_fields.specs.PlainRows.{without_ends}
use Rattle.text_fields.proofs.records.behind_ends.Given as goal

abbrev pub invariant-loop-text : goal.invariant-loop-text
invariant-loop-text l = without_ends l.text ≡ without_ends l.fn.text

abbrev pub decreases-loop-text : goal.decreases-loop-text
decreases-loop-text l = length l.text
