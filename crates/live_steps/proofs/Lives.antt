-- What answers scripts answers the steps that they were parted from.
use Rattle.std.proofs.Common.{◌≡◌, ◌∙◌, ℕ, ◌+◌, ◌-◌, ◌<◌, ◌≤◌, [], List, All, length, slice_index_or, sum_by, filter, subst, arith}
use Rattle.turn_lock.specs.History.{own}
use Rattle.change_protocol.specs.declared.operations.Act.{Act}
use Rattle.steps_file.specs.StepsFile.{count_of}
use Rattle.steps_file.specs.declared.steps.Step.{Step}
use Rattle.master_core.specs.declared.event.Event.{Event}
use Rattle.live_master.specs.Callers.{is_called_by, number_of}
use Rattle.live_run.specs.declared.script.Script.{Script}
use Rattle.live_run.specs.Answers.{AnswersActs}
use Rattle.live_run.specs.Whole.{AnswersScripts}
use Rattle.live_steps.specs.Live.{AnswersOperators, acts_of}
use Rattle.live_steps.specs.Parts.{AreScripts}

pub answers-operators : (steps : List Step) (cycles : ℕ) (scripts : List Script) (history : List Event)
    → ((k : ℕ) (h : List Event) → 1 ≤ k → k ≤ 8 → own number_of k h ≡ filter (is_called_by k) h)
    → cycles ≡ sum_by count_of steps → AreScripts steps scripts → AnswersScripts cycles scripts history → AnswersOperators history steps
answers-operators steps cycles scripts history calls count are answers = record {
  opened = answers.opened ∙ count;
  answered = λ operator some few.
      let k = operator - 1 in
      let none : Script = record { acts = [] } in
      let back : k + 1 ≡ operator = omega arith in
      let less : k < 8 = omega arith in
      let within : k < length scripts = omega (arith, are.count) in
      let acts = (slice_index_or scripts k none).acts in
      subst (λ (h : List Event). AnswersActs operator (acts_of operator steps) h) (calls operator history some few)
      (subst (λ n. AnswersActs n (acts_of n steps) (own number_of n history)) back
      (subst (λ (l : List Act). AnswersActs (k + 1) l (own number_of (k + 1) history)) (are.each k none less) (answers.answered k none within)));
  others = subst (λ n. All (λ event. number_of event ≤ n) history) are.count answers.others;
}
