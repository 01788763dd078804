-- The cycles that a history opens.
use Rattle.std.specs.Prelude.{List, [], ◌∷◌, ◌++◌}
use Rattle.requirement_table.specs.Opening.{Opening}
use Rattle.master_core.specs.declared.event.Event.{Event}
use Rattle.master_core.specs.declared.event.Event.TheVariants.{Submit, Look, Open}
use Rattle.master_core.specs.History.{placed_of}

-- the opening that an event is, after the events before it, with the entries that were placed then
abbrev pub opening_of : List Event → Event → List Opening
opening_of before (Submit caller change from verdict trail) = []
opening_of before (Look caller next) = []
opening_of before (Open cycle mask) = record { cycle = cycle; mask = mask; placed = placed_of before } ∷ []

-- the openings of events that follow the events before them
abbrev pub openings_after : List Event → List Event → List Opening
openings_after before [] = []
openings_after before (event ∷ later) = opening_of before event ++ openings_after (before ++ event ∷ []) later

-- the openings of a history
abbrev pub openings_of : List Event → List Opening
openings_of history = openings_after [] history
