-- What a run of a shared master leaves.
use Rattle.std.specs.Prelude.{◌≡◌, ℕ, ◌+◌, ◌<◌, ◌≤◌, List, [], All, length, filter, slice_index_or, Contains}
use Rattle.admission_rules.specs.declared.Rules.{Rules}
use Rattle.turn_lock.specs.declared.view.View.{View}
use Rattle.turn_lock.specs.History.{own}
use Rattle.turn_lock.specs.Passes.{Known, Lock, first_view}
use Rattle.requirement_table.specs.Instance.{bytes_of}
use Rattle.change_protocol.specs.declared.operations.Act.{Act}
use Rattle.cycle_engine.specs.Nodes.{IsBus, IsNumber, NodesView, left_in, states_of}
use Rattle.master_core.specs.declared.event.Event.{Event}
use Rattle.master_core.specs.History.{is_open, next_of}
use Rattle.kept_run.specs.Kept.{Kept}
use Rattle.kept_run.specs.Progress.{AreNodesReady}
use Rattle.kept_run.specs.Setting.{Setting}
use Rattle.live_master.specs.Callers.{number_of}
use Rattle.live_master.specs.Passes.{IsPassOf}
use Rattle.live_run.specs.declared.frames.Run.{Run}
use Rattle.live_run.specs.declared.script.Script.{Script}
use Rattle.live_run.specs.Answers.{AnswersActs}

-- a dispatcher's pass as it was made with its shared master
pub record IsFirstPass (shared : Lock Rules) (pass : Known Event Rules) : Type 0 where
  pub is : pass ≡ record { table = shared.table; view = first_view shared.fixed }
  pub standing : IsPassOf shared pass

-- nodes as they were made for a setting, before cycle 0: they send the number of an instance, and there is at least one
-- of each number below that of the rules. That there is no more than one is not said here
pub record AreFresh (setting : Setting) (nodes : NodesView) : Type 0 where
  pub same_layout : nodes.layout ≡ setting.layout
  pub same_bytes : setting.sends ≡ bytes_of
  pub bus : IsBus setting.layout setting.owners setting.requests [] [] 0 (states_of nodes.nodes)
  pub numbers : (number : ℕ) → number < setting.rules.nodes → IsNumber (states_of nodes.nodes) number

-- under this number the pass has the calls of an operator that was retired: they are all calls that the history has of
-- it, and answer these acts, in their order, each once
pub record HasAnswered (v : View Event Rules) (number : ℕ) (acts : List Act) : Type 0 where
  pub calls : List Event
  pub under : Contains v.ended (number, calls)
  pub all : own number_of number v.seen ≡ calls
  pub answers : AnswersActs number acts calls

-- some nodes that stand for the bus after this history and trace have so many requests that are not sent. Of these nodes
-- there is at least one of each number, so this alone does not say how many requests are left. The exact number is said
-- by the clauses `left`: by `left_at` of a run of given nodes, and by `left_of` of a whole run, which makes one node of
-- each number
pub record AreRequestsLeft (setting : Setting) (history : List Event) (run : Run) : Type 0 where
  pub nodes : NodesView
  pub ready : AreNodesReady setting history run.trace nodes
  pub left : run.left ≡ left_in (states_of nodes.nodes)

-- *The run*: what the dispatcher's pass has seen is legal, and with the trace it keeps what is promised; it opens so
-- many cycles, and these openings are the pass's own calls; and it has the calls of each script, under the number of
-- its operator, which is one above its place, and of no other operator
pub record IsLiveRun (setting : Setting) (cycles : ℕ) (scripts : List Script) (v : View Event Rules) (run : Run)
    : Type 0 where
  pub kept : Kept setting v.seen run.trace
  pub opened : next_of v.seen ≡ cycles
  pub dispatcher : v.number ≡ 0
  pub openings : filter is_open v.seen ≡ v.mine
  pub answered : (k : ℕ) (d : Script) → k < length scripts → HasAnswered v (k + 1) (slice_index_or scripts k d).acts
  pub others : length v.ended ≡ length scripts
  pub numbers : All (λ entry. entry.0 ≤ length scripts) v.ended
  pub left : AreRequestsLeft setting v.seen run
