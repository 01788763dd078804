-- The steps of a file, parted among the dispatcher and the operators.
use Rattle.std.specs.Prelude.{◌≡◌, ℕ, ◌+◌, ◌<◌, List, length, slice_index_or, sum_by}
use Rattle.steps_file.specs.StepsFile.{count_of}
use Rattle.steps_file.specs.declared.steps.Step.{Step}
use Rattle.live_run.specs.declared.script.Script.{Script}
use Rattle.live_steps.specs.declared.parting.LiveParts.{LiveParts}
use Rattle.live_steps.specs.Live.{acts_of}

-- the script at each place has the acts of the operator whose number is one above it
pub record AreScripts (steps : List Step) (scripts : List Script) : Type 0 where
  pub count : length scripts ≡ 8
  pub each : (k : ℕ) (d : Script) → k < 8 → (slice_index_or scripts k d).acts ≡ acts_of (k + 1) steps

-- the sum of all counts, and the scripts of all operators
pub record AreParted (steps : List Step) (parts : LiveParts) : Type 0 where
  pub cycles : parts.cycles ≡ sum_by count_of steps
  pub scripts : AreScripts steps parts.scripts.items
