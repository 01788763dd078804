-- What a reader of a steps file keeps of the rows that it has read.
use Rattle.std.specs.Prelude.{◌≡◌, ℕ, List, [], ◌∷◌, ◌++◌, Option, Some, None, count_by, sum_by, is_some}
use Rattle.change_protocol.specs.declared.operations.Act.TheVariants.{Ask}
use Rattle.change_protocol.specs.declared.operations.Op.{Op}
use Rattle.steps_file.specs.StepRow.{begins, count_in, ends_in_change, looks}
use Rattle.steps_file.specs.StepsFile.{Say}
use Rattle.steps_file.specs.declared.step_rows.StepLine.{StepLine}
use Rattle.steps_file.specs.declared.steps.ChangeDraft.{ChangeDraft}
use Rattle.steps_file.specs.declared.steps.Draft.{Draft}
use Rattle.steps_file.specs.declared.steps.Step.{Step}
use Rattle.steps_file.specs.declared.steps.Step.TheVariants.{Act}
use Rattle.steps_file.specs.declared.steps.StepTally.{StepTally}

-- the tally of these lines
pub record Counts (lines : List StepLine) (tally : StepTally) : Type 0 where
  pub in_change : tally.in_change ≡ ends_in_change lines
  pub changes : tally.changes ≡ count_by begins lines
  pub looks : tally.looks ≡ count_by looks lines
  pub cycles : tally.cycles ≡ sum_by count_in lines

-- the step by which an operator asks for a change
abbrev pub asking : ℕ → ℕ → List Op → Step
asking caller start ops = Act caller (Ask (record { start = start; ops = ops }))

-- the step of a change that may still grow
abbrev pub step_of_asked : ChangeDraft → Step
step_of_asked asked = asking asked.caller asked.start asked.ops.items

-- a change with this operation more
pub record GrowsBy (op : Op) (old new : ChangeDraft) : Type 0 where
  pub caller : new.caller ≡ old.caller
  pub start : new.start ≡ old.start
  pub ops : new.ops.items ≡ old.ops.items ++ op ∷ []

-- that step, where there is one
abbrev pub last_steps : Option ChangeDraft → List Step
last_steps None = []
last_steps (Some asked) = step_of_asked asked ∷ []

-- both are there, and the second has this operation more
abbrev pub GrewBy : Op → Option ChangeDraft → Option ChangeDraft → Type 0
GrewBy op (Some old) (Some new) = GrowsBy op old new
GrewBy op (Some old) None = ⊥
GrewBy op None new = ⊥

-- these lines say the steps of the draft, and it keeps a change back exactly where the last of them is of one
pub record Drafts (lines : List StepLine) (draft : Draft) : Type 0 where
  pub say : Say lines (draft.steps.items ++ last_steps draft.asked)
  pub asked : is_some draft.asked ≡ ends_in_change lines
