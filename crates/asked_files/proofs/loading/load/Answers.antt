use Rattle.std.proofs.Common.{◌∙◌, arith, refl, sym}
use Rattle.std.proofs.lemmas.Result.{err_from_is_err_and}
use Rattle.command_words.specs.WordsRead.{command_read}
use Rattle.asked_files.specs.Loads.{AreAllRead}
use Rattle.asked_files.proofs.TaskLemmas.{loaded, never-called, never-none, not-called, not-loaded, words-stop}
use Rattle.asked_files.proofs.loading.load.Goals as goal

pub returns-in_err-command-clause-fetched : goal.returns-in_err-command-clause-fetched
returns-in_err-command-clause-fetched g c =
    record { files_stay = refl; counted = omega arith; fetches_never_fall = omega arith; faults_never_fall = omega arith }

pub returns-in_err-command-clause-stop : goal.returns-in_err-command-clause-stop
returns-in_err-command-clause-stop g c =
    let at = err_from_is_err_and c.from_residual.result c.from_residual.ensures.1 in
    rw (at.1, at.2) (not-called _ _ _ _ _ c.in_err-command.ensures.stop)

pub returns-in_err-command-clause-command : goal.returns-in_err-command-clause-command
returns-in_err-command-clause-command g c =
    λ none. words-stop c.from_residual.result c.in_err-command.field-0.0 c.from_residual.ensures.1

pub returns-in_err-inputs-clause-fetched : goal.returns-in_err-inputs-clause-fetched
returns-in_err-inputs-clause-fetched g c =
    rw (sym c.in_ok-command.ensures.ok, sym c.as_slice.ensures.value) c.fetch_all.ensures.fetched

pub returns-in_err-inputs-clause-stop : goal.returns-in_err-inputs-clause-stop
returns-in_err-inputs-clause-stop g c =
    let at = err_from_is_err_and c.from_residual-in_err-inputs.result c.from_residual-in_err-inputs.ensures.1 in
    rw (at.1, at.2, sym c.in_ok-command.ensures.ok)
    (not-loaded (command_read c.in_ok-command.command) _ _ _ _ _ (rw (sym c.as_slice.ensures.value) c.in_err-inputs.ensures.stop))

pub returns-in_err-inputs-clause-command : goal.returns-in_err-inputs-clause-command
returns-in_err-inputs-clause-command g c = λ none. absurd (never-called _ _ c.in_ok-command.ensures.ok none)

pub returns : goal.returns
returns g c =
    let command = command_read c.in_ok-command.command in
    let told = g.S.Shelf.told_files c.args.shelf.now in
    let all : AreAllRead told command.files (g.S.Shelf.fetches c.args.shelf.now) (g.S.Shelf.fetches c.fetch_all.new.shelf) c.in_ok-inputs.inputs =
    rw (sym c.as_slice.ensures.value) c.in_ok-inputs.ensures.read in
    let it = loaded command told _ _ _ c.in_ok-command.ensures.row all c.in-Some.task (sym c.in-Some.is ∙ c.task_of.ensures.asked) in
    record {
      fetched = rw (sym c.in_ok-command.ensures.ok, sym c.as_slice.ensures.value) c.fetch_all.ensures.fetched;
      task = it.legal;
      threads = it.threads ∙ c.in_ok-command.ensures.carried;
      asked = rw (sym c.in_ok-command.ensures.ok) it.asked;
      stop = tt;
      command = λ none. absurd (never-called _ _ c.in_ok-command.ensures.ok none);
    }

pub unreachable-requires : goal.unreachable-requires
unreachable-requires g c =
    let command = command_read c.in_ok-command.command in
    let told = g.S.Shelf.told_files c.args.shelf.now in
    let all : AreAllRead told command.files (g.S.Shelf.fetches c.args.shelf.now) (g.S.Shelf.fetches c.fetch_all.new.shelf) c.in_ok-inputs.inputs =
    rw (sym c.as_slice.ensures.value) c.in_ok-inputs.ensures.read in
    never-none command told _ _ _ c.in_ok-command.ensures.row all (sym c.in-None.is ∙ c.task_of.ensures.asked)
