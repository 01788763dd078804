-- What answers the script of an operator.
use Rattle.std.specs.Prelude.{◌≡◌, ℕ, List, map}
use Rattle.change_protocol.specs.declared.operations.Act.{Act}
use Rattle.master_core.specs.Calls.{asked, call_of}
use Rattle.master_core.specs.declared.event.Event.{Event}

-- the events answer these acts of the operator of this number, in their order, each once
abbrev pub AnswersActs : ℕ → List Act → List Event → Type 0
AnswersActs number acts events = map call_of events ≡ map (asked number) acts
