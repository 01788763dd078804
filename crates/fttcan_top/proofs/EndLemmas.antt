-- How a call ended, by cases.
use Rattle.std.proofs.Common.{◌≡◌, Bool, true, false, List, ℕ, Option, Result, Ok, Err, refl, sym, ap, ◌∙◌, subst, inl, inr}
use Rattle.std.specs.Prelude.{◌⊎◌, IfOk, IsErrOf}
use Rattle.std.specs.Result.{IsErrAnd}
use Rattle.ftt_io.specs.Files.{NamedFiles}
use Rattle.command_words.specs.Words.{Command}
use Rattle.asked_files.specs.Asked.{IsAskedFor, IsNotAsked, is_live}
use Rattle.asked_files.specs.declared.stopping.Refusal.{Refusal}
use Rattle.asked_files.specs.declared.stopping.Stop.{Stop}
use Rattle.asked_files.specs.declared.stopping.Stop.TheVariants.{Words, Input, Read, Write, Memory}
use Rattle.asked_files.specs.declared.tasks.Job.{Job}
use Rattle.asked_files.specs.declared.tasks.Task.{Task}
use Rattle.fttcan_top.specs.declared.status.Status.{Status}
use Rattle.fttcan_top.specs.Ends.{Did, Ended, IsCarried, IsStatusOf, end_status, refusal_of}
use Rattle.fttcan_top.specs.Output.{IsDoneStatus}

module _ (called : Option Command) (told : Option NamedFiles) (before behind : ℕ) (shelf_rose out_rose : Type 0)
    (old new : Option (List ℕ)) where
  abbrev DidSo : Status → Refusal → Type 0
  DidSo status refusal = Did called told before behind shelf_rose out_rose old new status refusal

  abbrev EndedSo : Result Status Stop → Type 0
  EndedSo ended = Ended called told before behind shelf_rose out_rose old new ended

  -- a call whose `?` handed on why it is asked for nothing
  pub end-stopped : (ended : Result Status Stop) (why : Stop) → IsErrAnd ended (λ now. now ≡ why)
      → IsNotAsked called shelf_rose told before behind why → new ≡ old → EndedSo ended
  end-stopped (Ok status) why is none same = absurd is
  end-stopped (Err now) why is none same = subst (λ stop. EndedSo (Err stop)) (sym is) (stopped why none)
    where
      stopped : (stop : Stop) → IsNotAsked called shelf_rose told before behind stop → EndedSo (Err stop)
      stopped Words cause = record { did = (cause, same) }
      stopped (Input refusal) cause = record { did = (cause, same) }
      stopped Read cause = record { did = (cause, same) }
      stopped Write cause = absurd cause.barred
      stopped Memory cause = record { did = inl (cause, same) }

  -- a call that carried out what it was asked for
  pub end-carried : (ended : Result Status Stop) → IfOk ended IsDoneStatus → (asked_for : Task)
      → IsAskedFor called told before behind asked_for → IsCarried asked_for out_rose old new ended → EndedSo ended
  end-carried (Ok Status.Done) done asked_for is tells = record { did = (asked_for, is, tells) }
  end-carried (Ok Status.Refused) done asked_for is tells = record { did = (asked_for, is, tells) }
  end-carried (Ok Status.No) done asked_for is tells = record { did = (asked_for, is, tells) }
  end-carried (Ok _) done asked_for is tells = absurd done
  end-carried (Err Write) done asked_for is (rose, part) = record { did = (rose, (asked_for, is, part)) }
  end-carried (Err Memory) done asked_for is part = record { did = inr (asked_for, is, part) }
  end-carried (Err _) done asked_for is never = absurd never

  -- memory may run out for the line of a refused file
  lost-line : (refusal : Refusal) → DidSo Status.Input refusal → DidSo Status.Memory refusal
  lost-line refusal (is, same) =
      let at = is.fetched in
      inl (
        record {
          barred = tt;
          fetched = record { fetched = at.fetched; rest = at.rest; parts = at.parts; counted = at.counted; behind = tt };
        },
        same,
      )

  -- what a call did that ended so, by the status that it tells
  pub did : (ended : Result Status Stop) (status : Status) → IsStatusOf ended status → EndedSo ended
      → DidSo status (refusal_of ended)
  did ended status (inl same) is = subst (λ s. DidSo s (refusal_of ended)) (sym same) is.did
  did ended status (inr (input, same)) is =
      subst (λ s. DidSo s (refusal_of ended)) (sym same)
      (lost-line (refusal_of ended) (subst (λ s. DidSo s (refusal_of ended)) input is.did))

-- words of no command end so, or for want of memory
pub command-status : (ended : Result Status Stop) (status : Status) → IsStatusOf ended status
    → IsErrOf ended Words ⊎ IsErrOf ended Memory → (status ≡ Status.Words) ⊎ (status ≡ Status.Memory)
command-status ended status (inl same) (inl is) = inl (same ∙ ap end_status is)
command-status ended status (inl same) (inr is) = inr (same ∙ ap end_status is)
command-status ended status (inr (input, same)) told = inr same

no-live : false ≡ true → ⊥
no-live same = cc

-- a task for threads is that of a run by threads
pub not-live : (task : Task) → ((job : Job) (report : Bool) → task ≡ Task.Live job report → ⊥) → is_live task ≡ true → ⊥
not-live (Task.Live job report) other live = other job report refl
not-live _ other live = no-live live
