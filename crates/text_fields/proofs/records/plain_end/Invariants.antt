use Rattle.std.proofs.Common.{◌≡◌, take, true}
use Rattle.std.specs.List.{list_all}
use Rattle.text_fields.specs.PlainRows.{is_plain}
use Rattle.text_fields.proofs.records.plain_end.Given as goal

abbrev pub invariant-loop-end : goal.invariant-loop-end
invariant-loop-end l = list_all is_plain (take l.end l.text) ≡ true
