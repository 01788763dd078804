-- *Handover*: what a standby is told of a history, and how far it has come.
use Rattle.std.specs.Prelude.{◌≡◌, ◌≤◌, List, [], ◌∷◌, ◌++◌, if◌then◌else◌}
use Rattle.bit_sets.specs.Sets.{has_bit}
use Rattle.requirement_table.specs.Table.{width_in}
use Rattle.admission_rules.specs.declared.Rules.{Rules}
use Rattle.admission.specs.Verdict.{is_accepted}
use Rattle.master_core.specs.declared.event.Event.{Event}
use Rattle.master_core.specs.declared.event.Event.TheVariants.{Submit, Look, Open}
use Rattle.master_core.specs.History.{placed_of}
use Rattle.standby.specs.declared.told.Told.{Told}
use Rattle.standby.specs.declared.told.Told.TheVariants.{Change, Trigger}
use Rattle.standby.specs.Core.{core_of}
use Rattle.trigger_codec.specs.Bytes.{triggers_with}

-- what is told of an event, behind the events before it: what it leaves in the core, where an opening is told by the
-- trigger frames that the bus carries then
abbrev pub told_of : Rules → List Event → Event → List Told
told_of rules before (Submit caller change from verdict trail) =
    if is_accepted verdict then Change caller change ∷ [] else []
told_of rules before (Look caller next) = []
told_of rules before (Open cycle mask) =
    Trigger (triggers_with rules.slots cycle (width_in (placed_of before) cycle (has_bit mask)) mask) ∷ []

-- what is told of events that follow the events before them
abbrev pub told_after : Rules → List Event → List Event → List Told
told_after rules before [] = []
told_after rules before (event ∷ later) = told_of rules before event ++ told_after rules (before ++ event ∷ []) later

-- a change is told of an operator, 1 to 8
abbrev pub HasCaller : Told → Type 0
HasCaller (Change caller change) = (1 ≤ caller) × (caller ≤ 8)
HasCaller (Trigger frames) = Unit {0}

-- one who has this history of its own has come so far in the whole one that this is left to be told: its core is that
-- of a front of the whole
pub record IsBehind (rules : Rules) (whole own : List Event) (left : List Told) : Type 0 where
  pub front : List Event
  pub back : List Event
  pub parts : whole ≡ front ++ back
  pub same_core : core_of front ≡ core_of own
  pub to_tell : left ≡ told_after rules front back
