-- The draft of the steps of a steps file, with one line more.
use Rattle.std.proofs.Common.{◌≡◌, ℕ, true, false, List, [], ◌∷◌, ◌++◌, Option, Some, None, Result, Ok, Err, IfOk, is_some, refl, sym, ◌∙◌, arith}
use Rattle.std.proofs.lemmas.List.{append-nil}
use Rattle.change_protocol.specs.declared.operations.Op.{Op}
use Rattle.steps_file.proofs.StepLines.{ends_as, say_joined, say_more}
use Rattle.steps_file.specs.StepRow.{is_of_change}
use Rattle.steps_file.specs.StepsFile.{HasOperation, Say, lines_of}
use Rattle.steps_file.specs.StepsReading.{Drafts, GrewBy, asking, last_steps, step_of_asked}
use Rattle.steps_file.specs.declared.step_rows.StepLine.{StepLine}
use Rattle.steps_file.specs.declared.step_rows.StepLine.TheVariants as line
use Rattle.steps_file.specs.declared.steps.ChangeDraft.{ChangeDraft}
use Rattle.steps_file.specs.declared.steps.Draft.{Draft}
use Rattle.steps_file.specs.declared.steps.Step.{Step}

-- what follows from two facts of a value, where there is one
pub both_ok : {T E : Type 0} (P Q R : T → Type 0) (r : Result T E) → ((x : T) → P x → Q x → R x) → IfOk r P → IfOk r Q → IfOk r R
both_ok P Q R (Ok x) then p q = then x p q
both_ok P Q R (Err e) then p q = tt

-- a line that is a step of its own
pub drafts_step : (lines : List StepLine) (old new : Draft) (line : StepLine) (next : Step) → Drafts lines old → lines_of next ≡ line ∷ [] → HasOperation next → is_of_change line ≡ false
    → new.steps.items ≡ (old.steps.items ++ last_steps old.asked) ++ next ∷ [] → new.asked ≡ None → Drafts (lines ++ line ∷ []) new
drafts_step lines old new line next drafts is has alone steps asked =
    let so_far = old.steps.items ++ last_steps old.asked in
    let more : Say (lines ++ line ∷ []) (so_far ++ next ∷ []) = rw is at (say_more lines so_far next drafts.say has) in
    record {
      say = rw (steps, asked, append-nil (so_far ++ next ∷ [])) more;
      asked = rw asked (sym alone ∙ sym (ends_as lines line));
    }

-- a line that begins a change
pub drafts_begins : (lines : List StepLine) (old new : Draft) (asked : ChangeDraft) (caller start : ℕ) (op : Op) → Drafts lines old → step_of_asked asked ≡ asking caller start (op ∷ [])
    → new.steps.items ≡ old.steps.items ++ last_steps old.asked → new.asked ≡ Some asked → Drafts (lines ++ line.Begins caller start op ∷ []) new
drafts_begins lines old new asked caller start op drafts is steps last =
    record {
      say = rw (steps, last, is) (say_more lines (old.steps.items ++ last_steps old.asked) (asking caller start (op ∷ [])) drafts.say (omega arith));
      asked = rw last (sym (ends_as lines (line.Begins caller start op)));
    }

joined_say : (lines : List StepLine) (steps : List Step) (op : Op) (old new : Option ChangeDraft) → GrewBy op old new → Say lines (steps ++ last_steps old) → Say (lines ++ line.Joins op ∷ []) (steps ++ last_steps new)
joined_say lines steps op (Some old) (Some new) grew say =
    rw (grew.caller, grew.start, grew.ops) (say_joined lines steps old.caller old.start old.ops.items op say)
joined_say lines steps op (Some old) None grew say = absurd grew
joined_say lines steps op None new grew say = absurd grew

joined_some : (op : Op) (old new : Option ChangeDraft) → GrewBy op old new → is_some new ≡ true
joined_some op (Some old) (Some new) grew = refl
joined_some op (Some old) None grew = absurd grew
joined_some op None new grew = absurd grew

-- a line that adds an operation to the last change
pub drafts_joins : (lines : List StepLine) (old new : Draft) (op : Op) → Drafts lines old → new.steps ≡ old.steps → GrewBy op old.asked new.asked → Drafts (lines ++ line.Joins op ∷ []) new
drafts_joins lines old new op drafts steps grew =
    record {
      say = rw steps (joined_say lines old.steps.items op old.asked new.asked grew drafts.say);
      asked = joined_some op old.asked new.asked grew ∙ sym (ends_as lines (line.Joins op));
    }
