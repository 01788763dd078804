-- What holds of a shared master's passes between calls.
use Rattle.std.specs.Prelude.{◌≡◌, ◌⊎◌, ℕ, List, Some, None, Contains}
use Rattle.turn_lock.specs.declared.view.View.{View}
use Rattle.turn_lock.specs.History.{own}
use Rattle.turn_lock.specs.Passes.{Facts, IsReady, Known, Lock}
use Rattle.admission_rules.specs.declared.Rules.{Rules}
use Rattle.master_core.specs.declared.event.Event.{Event}
use Rattle.master_core.specs.History.{IsLegal}
use Rattle.live_master.specs.Callers.{number_of}

-- a pass that holds no turn: what is true of every pass of a lock is true of it, and what it has seen is a legal
-- history under the rules that it shows
pub record IsIdle (v : View Event Rules) : Type 0 where
  pub free : v.found ≡ None
  pub facts : Facts number_of v
  pub legal : (rules : Rules) → v.fixed ≡ Some rules → IsLegal rules v.seen

-- a pass of this shared master between two calls: it holds no turn, what is true of every pass of a lock is true of it,
-- and what it has seen is a legal history
pub record IsPassOf (shared : Lock Rules) (pass : Known Event Rules) : Type 0 where
  pub ready : IsReady shared pass
  pub facts : Facts number_of pass.view
  pub legal : IsLegal shared.fixed pass.view.seen

-- a history has each pass's calls, each once and in that pass's order, and no others: this pass's own, and under their
-- numbers those of the passes that were joined into it
pub record HasAllCalls (history : List Event) (v : View Event Rules) : Type 0 where
  pub mine : own number_of v.number history ≡ v.mine
  pub ended : (n : ℕ) (calls : List Event) → Contains v.ended (n, calls) → own number_of n history ≡ calls
  pub covered : (e : Event) → Contains history e
      → Contains v.mine e ⊎ ((n : ℕ) × (calls : List Event) × Contains v.ended (n, calls) × Contains calls e)
