use Rattle.std.proofs.Common.{◌∙◌, ◌≤◌, arith, drop, length, map, refl}
use Rattle.std.proofs.lemmas.List.{length-drop, length-map}
use Rattle.std.proofs.lemmas.Result.{err_from_is_err_and}
use Rattle.ftt_io.specs.Counts.{Rose}
use Rattle.command_words.specs.WordsRead.{named}
use Rattle.asked_files.proofs.FetchLemmas.{goes-on, going-ends, going-start, held-up, most-so-far, next-file, next-most}
use Rattle.asked_files.proofs.fetching.fetch_all.Goals as goal

pub loop-file-init : goal.loop-file-init
loop-file-init g c = record {
  going = going-start _ _ _ c.new-inputs.result c.new-inputs.ensures.inputs;
  files_stay = refl;
  fetches = omega arith;
  faults = omega arith;
}

pub returns-in_err-content-clause-fetched : goal.returns-in_err-content-clause-fetched
returns-in_err-content-clause-fetched g c =
    let fetched = c.fetch_content.ensures.fetched in
    let loop = c.loop-file.invariant in
    let some : 1 ≤ length (map named (drop c.loop-file.file-index c.args.files.now)) = simp (length-map, length-drop) (omega arith) in
    record {
      files_stay = fetched.files_stay ∙ loop.files_stay;
      counted = omega (arith, some, most-so-far _ _ _ _ _ _ loop.going, next-most (g.S.Shelf.fetches c.loop-file.shelf), c.fetch_content.ensures.once);
      fetches_never_fall = omega (arith, loop.fetches, fetched.fetches_never_fall);
      faults_never_fall = omega (arith, loop.faults, fetched.faults_never_fall);
    }

pub returns-in_err-content-clause-stop : goal.returns-in_err-content-clause-stop
returns-in_err-content-clause-stop g c =
    let loop = c.loop-file.invariant in
    let at = err_from_is_err_and c.from_residual.result c.from_residual.ensures.1 in
    let now = g.S.Shelf.faults c.fetch_content.new.shelf in
    rw (at.1, at.2)
    (held-up _ _ _ _ _ _ _ _ (next-file c.args.files.now c.loop-file.file-index _ c.loop-file-test.true loop.going)
    c.fetch_content.ensures.once (Rose (g.S.Shelf.faults c.loop-file.shelf) now) (Rose (g.S.Shelf.faults c.args.shelf.now) now)
    c.in_err-content.field-0.0 (λ later. omega (arith, later, loop.faults))
    (rw loop.files_stay at c.in_err-content.ensures.at) (rw loop.files_stay at c.in_err-content.ensures.stop))

pub loop-file-preserved : goal.loop-file-preserved
loop-file-preserved g c =
    let fetched = c.fetch_content.ensures.fetched in
    let loop = c.loop-file.invariant in
    record {
      going = goes-on _ _ _ _ _ _ _ _ (next-file c.args.files.now c.loop-file.file-index _ c.loop-file-test.true loop.going)
          c.fetch_content.ensures.once c.in_ok-content.content c.put.new.self c.in_ok-content.ensures.may
          (λ files tells. c.in_ok-content.ensures.ok files (loop.files_stay ∙ tells)) c.put.ensures.put;
      files_stay = fetched.files_stay ∙ loop.files_stay;
      fetches = omega (arith, loop.fetches, fetched.fetches_never_fall);
      faults = omega (arith, loop.faults, fetched.faults_never_fall);
    }

pub returns-clause-fetched : goal.returns-clause-fetched
returns-clause-fetched g c =
    let loop = c.loop-file.invariant in
    record {
      files_stay = loop.files_stay;
      counted = omega (arith, most-so-far _ _ _ _ _ _ loop.going);
      fetches_never_fall = loop.fetches;
      faults_never_fall = loop.faults;
    }

pub returns-clause-read : goal.returns-clause-read
returns-clause-read g c =
    going-ends _ c.args.files.now _ _ c.loop-file.file-index _ (omega (arith, c.loop-file-test.false)) c.loop-file.invariant.going
