-- Whether a run refused no change.
use Rattle.std.specs.Prelude.{Bool, true, List}
use Rattle.std.specs.List.{list_all}
use Rattle.admission.specs.Verdict.{is_accepted}
use Rattle.master_core.specs.declared.event.Event.{Event}
use Rattle.master_core.specs.declared.event.Event.TheVariants.{Submit, Look, Open}

-- whether the event refuses no change
abbrev pub refuses_nothing : Event → Bool
refuses_nothing (Submit caller change from verdict trail) = is_accepted verdict
refuses_nothing (Look caller next) = true
refuses_nothing (Open cycle mask) = true

-- whether each change of the history was accepted
abbrev pub all_accepted : List Event → Bool
all_accepted history = list_all refuses_nothing history
