-- What the openings of a legal history are to its final list of placed entries.
use Rattle.std.proofs.Common.{◌≡◌, ℕ, ◌<◌, List, All, Contains}
use Rattle.std.specs.Prelude.{option_map}
use Rattle.requirement_table.specs.declared.entries.Placed.{Placed}
use Rattle.requirement_table.specs.Opening.{Opening}
use Rattle.requirement_table.specs.Table.{IsWellPlaced, instance_in}
use Rattle.change_protocol.specs.Applied.{without_end}
use Rattle.planner_policies.specs.Plan.{NeverMisses, mask_at}
use Rattle.admission_rules.specs.declared.Rules.{Rules}
use Rattle.master_core.specs.declared.event.Event.{Event}
use Rattle.master_core.specs.History.{IsLegal, next_of, placed_of, plan_of}
use Rattle.master_core.specs.Openings.{openings_of}
use Rattle.master_core.proofs.Shared.{opened-of_legal, sound-of_legal}
use Rattle.cycle_engine.specs.Offered.{AreOfDistinctCycles}
use Rattle.kept_run.proofs.Lists.{number-below, numbers-differ, of-number}

-- the openings are of the cycles below `next`, each once, and each has the mask and, but for ends that came later, the
-- instances of this list, which is well placed and never misses a deadline
pub record AreOpenedBy (rules : Rules) (placed : List Placed) (next : ℕ) (openings : List Opening) : Type 0 where
  pub well : IsWellPlaced placed
  pub in_time : NeverMisses (plan_of rules placed)
  pub opened : (c : ℕ) → c < next → (o : Opening) × Contains openings o × (o.cycle ≡ c)
  pub below : All (λ o. o.cycle < next) openings
  pub each_once : AreOfDistinctCycles openings
  pub masks : All (λ o. o.mask ≡ mask_at (plan_of rules placed) o.cycle) openings
  pub instances : All (λ o. (slot : ℕ) → option_map without_end (instance_in o.placed slot o.cycle) ≡ option_map without_end (instance_in placed slot o.cycle)) openings

pub opened-legal : (rules : Rules) (history : List Event) → IsLegal rules history
    → AreOpenedBy rules (placed_of history) (next_of history) (openings_of history)
opened-legal rules history legal =
    let cycle : Opening → ℕ = λ o. o.cycle in
    let sound = sound-of_legal rules history legal in
    let opened = opened-of_legal rules history legal in
    record {
      well = sound.well_placed;
      in_time = sound.in_time;
      opened = of-number cycle (openings_of history) (next_of history) opened.cycles;
      below = number-below cycle (openings_of history) (next_of history) opened.cycles;
      each_once = numbers-differ cycle (openings_of history) (next_of history) opened.cycles;
      masks = λ i d within. (opened.each i d within).mask;
      instances = λ i d within. (opened.each i d within).instances;
    }
