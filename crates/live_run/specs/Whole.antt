-- A whole run, by the history of its master and the frames on the bus alone.
use Rattle.std.specs.Prelude.{◌≡◌, ℕ, ◌+◌, ◌<◌, ◌≤◌, List, All, length, slice_index_or}
use Rattle.turn_lock.specs.History.{own}
use Rattle.master_core.specs.declared.event.Event.{Event}
use Rattle.master_core.specs.History.{next_of}
use Rattle.kept_run.specs.Kept.{Kept}
use Rattle.kept_run.specs.Setting.{Setting}
use Rattle.live_master.specs.Callers.{number_of}
use Rattle.live_run.specs.declared.closing.EndedRun.{EndedRun}
use Rattle.live_run.specs.declared.script.Script.{Script}
use Rattle.live_run.specs.Answers.{AnswersActs}
use Rattle.live_run.specs.Live.{AreRequestsLeft}

-- the history opens so many cycles and answers these scripts: the calls of the operator whose number is one above a
-- script's place are its acts, in their order, each once, and nobody else called. In which order calls of different
-- operators and openings stand is left open
pub record AnswersScripts (cycles : ℕ) (scripts : List Script) (history : List Event) : Type 0 where
  pub opened : next_of history ≡ cycles
  pub answered : (k : ℕ) (d : Script) → k < length scripts
      → AnswersActs (k + 1) (slice_index_or scripts k d).acts (own number_of (k + 1) history)
  pub others : All (λ event. number_of event ≤ length scripts) history

-- the master's history is legal, answers the scripts, and with the trace keeps what is promised; and so many requests
-- are not sent
pub record IsWholeRun (setting : Setting) (cycles : ℕ) (scripts : List Script) (ended : EndedRun) : Type 0 where
  pub rules : ended.master.rules ≡ setting.rules
  pub kept : Kept setting ended.master.history ended.run.trace
  pub answers : AnswersScripts cycles scripts ended.master.history
  pub left : AreRequestsLeft setting ended.master.history ended.run
