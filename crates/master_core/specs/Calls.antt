-- What a master is called for.
use Rattle.std.specs.Prelude.{ℕ}
use Rattle.change_protocol.specs.declared.operations.Act.{Act}
use Rattle.change_protocol.specs.declared.operations.Act.TheVariants as act
use Rattle.master_core.specs.declared.event.Event.{Event}
use Rattle.master_core.specs.declared.event.Event.TheVariants.{Submit, Look, Open}

-- the operator of some number has an act, or the next cycle is to be opened
pub data Call : Type 0 where
  asked : ℕ → Act → Call
  opens : Call

-- the call that an event answers
abbrev pub call_of : Event → Call
call_of (Submit caller change from verdict trail) = asked caller (act.Ask change)
call_of (Look caller next) = asked caller act.Look
call_of (Open cycle mask) = opens
