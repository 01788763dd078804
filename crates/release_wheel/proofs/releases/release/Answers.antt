use Rattle.std.proofs.Common.{◌∙◌, refl, arith}
use Rattle.bit_sets.specs.Sets.{has_bit}
use Rattle.planner_policies.proofs.Shared.{same-read}
use Rattle.bit_sets.specs.Rows.{rows_left}
use Rattle.release_wheel.proofs.Releasing.{releasing-end, releasing-start}
use Rattle.bit_sets.proofs.Shared.{none-left}
use Rattle.release_wheel.proofs.releases.release.Goals as goal

pub release_word-low-requires-clause-going : goal.release_word-low-requires-clause-going
release_word-low-requires-clause-going c = grind (arith, releasing-start, same-read)

pub release_word-requires-clause-going : goal.release_word-requires-clause-going
release_word-requires-clause-going c = grind arith

pub returns-clause-released : goal.returns-clause-released
returns-clause-released c =
    let w = c.args.wheel.now in
    let last = c.release_word in
    releasing-end (has_bit w.dues.waiting.slots) (rows_left last.result) (record w { rows = last.new.rows; dues = last.new.dues })
    last.ensures.going (none-left last.result last.ensures.done (last.ensures.behind ∙ c.next_word.ensures.last))

pub returns-clause-table : goal.returns-clause-table
returns-clause-table c = record { entries = c.release_word.ensures.entries ∙ c.release_word-low.ensures.entries; others = refl }
