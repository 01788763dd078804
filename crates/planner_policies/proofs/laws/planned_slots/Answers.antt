use Rattle.planner_policies.proofs.Fits.{planned-fits, planned-pending, planned-sendable}
use Rattle.planner_policies.proofs.laws.planned_slots.Goals as goal

pub returns : goal.returns
returns c = record { fits = planned-fits; pending = planned-pending; sendable = planned-sendable }
