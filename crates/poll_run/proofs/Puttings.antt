-- What was put of a polled run, by what was put of its log and by the rows of its requests.
use Rattle.std.proofs.Common.{◌≡◌, ℕ, Bool, List, ◌++◌, Option, Result, Ok, Err, IfErr, IfOk, OnOk, OnErr, refl, ap, ◌∙◌, inr}
use Rattle.steps_file.specs.declared.steps.Step.{Step}
use Rattle.system_file.specs.declared.system.System.{System}
use Rattle.ftt_io.specs.Puts.{Puts, PutsPrefix}
use Rattle.ftt_io.proofs.Shared.{Puts-append, PutsPrefix-append}
use Rattle.bus_trace.specs.Log.{log_text}
use Rattle.master_core.specs.Accepted.{all_accepted}
use Rattle.replay_run.specs.Whole.{IsLogOf}
use Rattle.replay_run.specs.Written.{IsRunCut, IsWritten}
use Rattle.replay_run.specs.declared.cut.Cut.{Cut}
use Rattle.replay_run.specs.declared.cut.Cut.TheVariants.{Write}
use Rattle.replay_run.proofs.Shared.{cut-before_more}
use Rattle.sporadic_poll.specs.declared.stream.Stream.{Stream}
use Rattle.poll_run.specs.declared.polled.Polled.{Polled}
use Rattle.poll_run.specs.RequestRows.{request_rows}
use Rattle.poll_run.specs.Whole.{IsPollLog, IsPollOutput, IsPolledRunBegun, IsRunWithFates}

module _ (system : System) (steps : List Step) (streams : List Stream) (old : Option (List ℕ)) where
  -- the rows of the requests of a run
  abbrev rows_of : Polled → List ℕ
  rows_of polled = request_rows 1 polled.rides.queued.streams polled.rides.fates

  -- the log with these rows behind it is the text of the run
  text-of : (polled : Polled) (quiet : Bool) (text : List ℕ) → IsPollLog system steps streams polled text → quiet ≡ polled.quiet
      → IsPollOutput system steps streams quiet (text ++ rows_of polled)
  text-of polled quiet text is same = record {
    history = is.history;
    carried = is.carried;
    trace = is.trace;
    run = is.run;
    is_text = record {
      fates = polled.rides.fates;
      are = is.fates;
      text_is = ap (λ l. l ++ rows_of polled) is.text_is
          ∙ ap (λ (s : List Stream). log_text is.history is.trace ++ request_rows 1 s polled.rides.fates) is.same_streams;
    };
    accepted = same ∙ is.accepted;
  }

  abbrev pub IsPollCut : Option (List ℕ) → Cut → Type 0
  IsPollCut now why = IsRunCut (IsPolledRunBegun system steps streams) (λ text. (quiet : Bool) × IsPollOutput system steps streams quiet text) old now why

  -- what the putting of the requests' rows makes of a run whose log was put
  pub written-end : (polled : Polled) (result : Result Bool Cut) (middle now : Option (List ℕ)) → IsWritten (IsPollLog system steps streams polled) old middle
      → OnOk result (Puts middle now (rows_of polled)) → IfOk result (λ quiet. quiet ≡ polled.quiet)
      → IfOk result (λ quiet. IsWritten (IsPollOutput system steps streams quiet) old now)
  written-end polled (Ok quiet) middle now log puts same = record {
    text = log.text ++ rows_of polled;
    is = text-of polled quiet log.text log.is same;
    heard = Puts-append old middle now log.text (rows_of polled) log.heard puts;
  }
  written-end polled (Err why) middle now log puts same = tt

  pub cut-end : (polled : Polled) (result : Result Bool Cut) (middle now : Option (List ℕ)) → IsWritten (IsPollLog system steps streams polled) old middle
      → OnErr result (PutsPrefix middle now (rows_of polled)) → IfErr result (λ why. why ≡ Write) → IfErr result (IsPollCut now)
  cut-end polled (Ok quiet) middle now log puts write = tt
  cut-end polled (Err why) middle now log puts write = inr (record {
    text = log.text ++ rows_of polled;
    is = (polled.quiet, text-of polled polled.quiet log.text log.is refl);
    write = write;
    broke = PutsPrefix-append old middle now log.text log.heard puts;
  })

  -- one that was cut in its log
  pub cut-in_log : (now : Option (List ℕ)) (why : Cut) → IsRunCut (IsPolledRunBegun system steps streams) (IsLogOf (IsRunWithFates system steps streams)) old now why
      → IsPollCut now why
  cut-in_log now why cut =
      cut-before_more (IsPolledRunBegun system steps streams) (IsLogOf (IsRunWithFates system steps streams))
      (λ text. (quiet : Bool) × IsPollOutput system steps streams quiet text) old now why
      (λ text is. (
        request_rows 1 streams is.run.fates,
        (
          all_accepted is.history,
          record {
            history = is.history;
            carried = is.run.carried;
            trace = is.trace;
            run = is.run.run;
            is_text = record { fates = is.run.fates; are = is.run.are; text_is = ap (λ l. l ++ request_rows 1 streams is.run.fates) is.text_is };
            accepted = refl;
          },
        ),
      ))
      cut
