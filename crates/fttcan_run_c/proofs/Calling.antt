-- What a call does, from what `plain` says of it.
use Rattle.std.proofs.Common.{◌≡◌, ◌≢◌, ◌⊎◌, ℕ, true, false, List, [], Option, Some, None, Err, inl, inr, length, refl, sym, subst, arith, take, drop, nat_le}
use Rattle.std.specs.Prelude.{codes}
use Rattle.std.proofs.lemmas.Bool.Decides.{nat_tests}
use Rattle.std.proofs.lemmas.List.{take_all, take-append-drop, length-take}
use Rattle.ftt_io.specs.Counts.{Rose}
use Rattle.ftt_io.specs.Files.{NamedFiles}
use Rattle.command_words.specs.Words.{Command, NamedSource, command_of}
use Rattle.asked_files.specs.Asked.{IsAskedBy, IsNotAsked}
use Rattle.asked_files.specs.Loads.{IsBarred, StoppedBehind, sources_of}
use Rattle.asked_files.specs.declared.stopping.Refusal.{Refusal}
use Rattle.asked_files.specs.declared.stopping.Stop.{Stop}
use Rattle.asked_files.specs.declared.stopping.Stop.TheVariants.{Words, Input, Read, Write, Memory}
use Rattle.fttcan_top.specs.declared.status.Status.{Status}
use Rattle.fttcan_top.specs.Ends.{Did}
use Rattle.fttcan_top.specs.Output.{Says, message_of}
use Rattle.fttcan_run_c.specs.Called.{IsCalled}

-- What a call did stays true where less is said of the counts of faults
module _ (called : Option Command) (told : Option NamedFiles) (before behind : ℕ) (shelf_rose failed : Type 0)
    (fails : shelf_rose → failed) where
  barred-kept : (why : Stop) → IsBarred (called ≡ None) shelf_rose told (λ files. IsAskedBy files called) why
      → IsBarred (called ≡ None) failed told (λ files. IsAskedBy files called) why
  barred-kept Words none = none
  barred-kept (Input refusal) asks = asks
  barred-kept Read (cause, asks) = (weaker cause, λ files tells. weaker (asks files tells))
    where
      weaker : {A : Type 0} → shelf_rose ⊎ A → failed ⊎ A
      weaker (inl rose) = inl (fails rose)
      weaker (inr absent) = inr absent
  barred-kept Write never = never
  barred-kept Memory any = any

  behind-kept : (why : Stop) (fetched : List NamedSource) → StoppedBehind told shelf_rose why fetched
      → StoppedBehind told failed why fetched
  behind-kept Words fetched none = none
  behind-kept (Input refusal) fetched at =
      record { front = at.front; last = at.last; parts = at.parts; before = at.before; here = at.here }
  behind-kept Read fetched at =
      record { front = at.front; last = at.last; parts = at.parts; before = at.before; here = here at.here }
    where
      here : {A : Type 0} → shelf_rose ⊎ A → failed ⊎ A
      here (inl rose) = inl (fails rose)
      here (inr absent) = inr absent
  behind-kept Write fetched never = never
  behind-kept Memory fetched any = any

  not-asked-kept : (why : Stop) → IsNotAsked called shelf_rose told before behind why → IsNotAsked called failed told before behind why
  not-asked-kept why is = record {
    barred = barred-kept why is.barred;
    fetched = record {
      fetched = is.fetched.fetched;
      rest = is.fetched.rest;
      parts = is.fetched.parts;
      counted = is.fetched.counted;
      behind = behind-kept why is.fetched.fetched is.fetched.behind;
    };
  }

  did-kept : (out_rose full : Type 0) (old new : Option (List ℕ)) → (out_rose → full) → (status : Status) (refusal : Refusal)
      → Did called told before behind shelf_rose out_rose old new status refusal
      → Did called told before behind failed full old new status refusal
  did-kept out_rose full old new fills Status.Done refusal is = is
  did-kept out_rose full old new fills Status.Refused refusal is = is
  did-kept out_rose full old new fills Status.No refusal is = is
  did-kept out_rose full old new fills Status.Words refusal (why, same) = (not-asked-kept Words why, same)
  did-kept out_rose full old new fills Status.Input refusal (why, same) = (not-asked-kept (Input refusal) why, same)
  did-kept out_rose full old new fills Status.Read refusal (why, same) = (not-asked-kept Read why, same)
  did-kept out_rose full old new fills Status.Write refusal (rose, cut) = (fills rose, cut)
  did-kept out_rose full old new fills Status.Memory refusal (inl (why, same)) = inl (not-asked-kept Memory why, same)
  did-kept out_rose full old new fills Status.Memory refusal (inr cut) = inr cut

-- so does what is said of a text
said-kept : (old new : Option (List ℕ)) (rose full : Type 0) → (rose → full) → (text : List ℕ) → Says old new rose text → Says old new full text
said-kept old new rose full is text (inl all) = inl all
said-kept old new rose full is text (inr front) = inr (is front.0, front.1)

-- a count that rose is not 0
pub rose-some : (before now : ℕ) → Rose before now → now ≢ 0
rose-some before now rose none = absurd (omega (arith, rose, none))

-- what `plain` says of a call over files that are told and over sinks that tell their bytes is a call, where the
-- counts of faults rise only where a room is full, and that of the shelf never does
pub called : (words spoken : List (List ℕ)) (files : NamedFiles) (before behind : ℕ) (shelf_rose out_rose err_rose : Type 0) (status : Status)
    (refusal : Refusal) (old_out out old_err err : List ℕ) (out_room err_room : ℕ) → spoken ≡ words → old_out ≡ [] → old_err ≡ []
    → (shelf_rose → ⊥) → (out_rose → length out ≡ out_room) → (err_rose → length err ≡ err_room)
    → Did (command_of spoken) (Some files) before behind shelf_rose out_rose (Some old_out) (Some out) status refusal
    → (command_of spoken ≡ None → (status ≡ Status.Words) ⊎ (status ≡ Status.Memory))
    → Says (Some old_err) (Some err) err_rose (message_of status refusal) → IsCalled words files out_room err_room status out err
called words spoken files before behind shelf_rose out_rose err_rose status refusal old_out out old_err err out_room err_room
    same no_out no_err no_rise out_is err_is did command says = record {
      refusal = refusal;
      before = before;
      behind = behind;
      did = subst (λ told. Did (command_of told) (Some files) before behind ⊥ (length out ≡ out_room) (Some []) (Some out) status refusal) same
          (subst (λ told. Did (command_of spoken) (Some files) before behind ⊥ (length out ≡ out_room) (Some told) (Some out) status refusal) no_out
          (did-kept (command_of spoken) (Some files) before behind shelf_rose ⊥ no_rise out_rose (length out ≡ out_room) (Some old_out) (Some out) out_is status refusal did));
      command = subst (λ told. command_of told ≡ None → (status ≡ Status.Words) ⊎ (status ≡ Status.Memory)) same command;
      message = said-kept (Some []) (Some err) err_rose (length err ≡ err_room) err_is (message_of status refusal)
          (subst (λ told. Says (Some told) (Some err) err_rose (message_of status refusal)) no_err says);
    }

-- the first bytes of a text, as many as there is room for
said-in-room : (room : ℕ) (text : List ℕ) → Says (Some []) (Some (take room text)) (length (take room text) ≡ room) text
said-in-room room text =
    elim (nat_le room (length text)) as (λ short. nat_le room (length text) ≡ short → Says (Some []) (Some (take room text)) (length (take room text) ≡ room) text) [
      | true ↦ λ short. inr (let size = length-take room text in grind (arith, nat_tests), record { front = take room text; rest = drop room text; split = sym (take-append-drop room text); puts = refl })
      | false ↦ λ short. inl (take_all room text (grind (arith, nat_tests)))
    ] refl

-- a call that ran out of memory
pub called-without-memory : (words : List (List ℕ)) (files : NamedFiles) (out_room err_room : ℕ) (err : List ℕ) → err ≡ take err_room (codes "out of memory\n")
    → IsCalled words files out_room err_room Status.Memory [] err
called-without-memory words files out_room err_room err is = record {
  refusal = Refusal.LaterPlan;
  before = 0;
  behind = 0;
  did = inl (
    record {
      barred = tt;
      fetched = record { fetched = []; rest = sources_of (command_of words); parts = refl; counted = refl; behind = tt };
    },
    refl,
  );
  command = λ none. inr refl;
  message = subst (λ text. Says (Some []) (Some text) (length text ≡ err_room) (codes "out of memory\n")) (sym is) (said-in-room err_room (codes "out of memory\n"));
}
