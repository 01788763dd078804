-- The periods so far.
use Rattle.std.proofs.Common.{◌≡◌, ◌++◌, take}
use Rattle.std.specs.List.{flat_map}
use Rattle.std.specs.String.{string_bytes}
use Rattle.elastic.specs.ChoiceRows.{later_period}
use Rattle.elastic.proofs.choice_rows.push_later.Given as goal

abbrev pub invariant-loop-period : goal.invariant-loop-period
invariant-loop-period l =
    string_bytes l.text ≡ string_bytes l.initial.text ++ flat_map later_period (take l.period-index l.periods)
