-- The numbers of the rules that a malformed change breaks.
use Rattle.std.specs.Prelude.{ℕ}
use Rattle.change_protocol.specs.declared.malformed.Why.{Why}
use Rattle.change_protocol.specs.declared.malformed.Why.TheVariants.{NoOps, TooManyOps, StartRange, SlotRange}
use Rattle.change_protocol.specs.declared.malformed.Why.TheVariants.{SlotTwice, NodeUnknown, LengthRange}
use Rattle.change_protocol.specs.declared.malformed.Why.TheVariants.{PeriodZero, DeadlineRange, SlotBusy, SlotEmpty}

-- the number of a rule, in the order in which the rules are tested
abbrev pub code_of : Why → ℕ
code_of NoOps = 1
code_of TooManyOps = 2
code_of StartRange = 3
code_of SlotRange = 4
code_of SlotTwice = 5
code_of NodeUnknown = 6
code_of LengthRange = 7
code_of PeriodZero = 8
code_of DeadlineRange = 9
code_of (SlotBusy until) = 10
code_of SlotEmpty = 11
