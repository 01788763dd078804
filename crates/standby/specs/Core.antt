-- The core of a history: what of it another master has to be told, so that it can go on.
use Rattle.std.specs.Prelude.{ℕ, List, [], ◌∷◌, if◌then◌else◌}
use Rattle.std.specs.List.{flat_map}
use Rattle.change_protocol.specs.declared.operations.Change.{Change}
use Rattle.admission.specs.Verdict.{is_accepted}
use Rattle.master_core.specs.declared.event.Event.{Event}
use Rattle.master_core.specs.declared.event.Event.TheVariants.{Submit, Look, Open}

-- one item of a core: a change of the operator of some number that was accepted, or the opening of a cycle, in which
-- the slots of a set are flagged
pub data Item : Type 0 where
  changed : ℕ → Change → Item
  opened : ℕ → ℕ → Item

-- the items that an event leaves: an opening leaves itself, and an accepted change leaves its caller and the whole
-- change, with its start, without the cycle from which it was planned and without the repeat that was found; other
-- events leave nothing
abbrev pub items_of : Event → List Item
items_of (Submit caller change from verdict trail) = if is_accepted verdict then changed caller change ∷ [] else []
items_of (Look caller next) = []
items_of (Open cycle mask) = opened cycle mask ∷ []

-- *Core of a history*: the openings and the accepted changes, in their order
abbrev pub core_of : List Event → List Item
core_of history = flat_map items_of history
