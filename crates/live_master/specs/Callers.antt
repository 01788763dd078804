-- Which pass may make which event.
use Rattle.std.specs.Prelude.{ℕ, ◌==◌, if◌then◌else◌, Bool, false}
use Rattle.master_core.specs.declared.event.Event.{Event}
use Rattle.master_core.specs.declared.event.Event.TheVariants.{Submit, Look, Open}

-- the number of the pass of operator `caller`: the same number. Nobody calls with 0, so it stands with 9, which no pass
-- has
abbrev pub operator_number : ℕ → ℕ
operator_number caller = if caller == 0 then 9 else caller

-- the number of the one pass that may make an event: 0, the dispatcher's, for an opening, and the operator's for a
-- change and a look
abbrev pub number_of : Event → ℕ
number_of (Submit caller change from verdict trail) = operator_number caller
number_of (Look caller next) = operator_number caller
number_of (Open cycle mask) = 0

-- whether the event is a change or a look of operator `k`
abbrev pub is_called_by : ℕ → Event → Bool
is_called_by k (Submit caller change from verdict trail) = caller == k
is_called_by k (Look caller next) = caller == k
is_called_by k (Open cycle mask) = false
