-- The operators of a run.
use Rattle.std.specs.Prelude.{◌≡◌, ℕ, ◌+◌, ◌<◌, true, List, [], length, slice_index_or}
use Rattle.admission_rules.specs.declared.Rules.{Rules}
use Rattle.turn_lock.specs.declared.view.View.{View}
use Rattle.turn_lock.specs.Passes.{Lock}
use Rattle.master_core.specs.declared.event.Event.{Event}
use Rattle.live_master.specs.Passes.{IsPassOf}
use Rattle.live_run.specs.declared.crew.Operator.{Operator}
use Rattle.live_run.specs.declared.script.Script.{Script}
use Rattle.live_run.specs.Answers.{AnswersActs}

-- an operator of this number, which made no call yet
pub record IsHired (shared : Lock Rules) (number : ℕ) (operator : Operator) : Type 0 where
  pub standing : IsPassOf shared operator.pass
  pub number_is : operator.pass.view.number ≡ number
  pub none : operator.pass.view.mine ≡ []

-- the operators 1, 2 and so on, none of which made a call yet
abbrev pub AreHired : Lock Rules → List Operator → Type 0
AreHired shared operators = (k : ℕ) (d : Operator) → k < length operators
    → IsHired shared (k + 1) (slice_index_or operators k d)

-- an operator of this number, whose calls are the acts of the script, in their order, where all of these were answered
pub record IsDone (shared : Lock Rules) (number : ℕ) (script : Script) (operator : Operator) : Type 0 where
  pub standing : IsPassOf shared operator.pass
  pub number_is : operator.pass.view.number ≡ number
  pub answers : operator.answered ≡ true → AnswersActs number script.acts operator.pass.view.mine

-- the operators 1, 2 and so on, each done with the script of its place
pub record AreDone (shared : Lock Rules) (scripts : List Script) (operators : List Operator) : Type 0 where
  pub each : (k : ℕ) (d : Operator) (s : Script) → k < length operators
      → IsDone shared (k + 1) (slice_index_or scripts k s) (slice_index_or operators k d)

-- a pass made so many operators, and is as before otherwise
abbrev pub HasLent : View Event Rules → View Event Rules → ℕ → Type 0
HasLent old new count = new ≡ record old { made = old.made + count; out = old.out + count }
