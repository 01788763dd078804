use Rattle.std.proofs.Common.{◌∙◌, ap, map, refl, string_bytes}
use Rattle.ftt_io.specs.Counts.{Rose}
use Rattle.fttcan_run_c.specs.Called.{files_of, words_of}
use Rattle.fttcan_run_c.proofs.Calling.{called, rose-some}
use Rattle.fttcan_run_c.proofs.run.carried_out.Goals as goal

pub returns-clause-called : goal.returns-clause-called
returns-clause-called c =
    let plain = c.plain-status.ensures.answers in
    let files = c.args.files in
    called (words_of c.args.words.now) (map string_bytes c.as_slice.result.now)
    (files_of files.file0.now files.file1.now files.file2.now files.file3.now) files.fetches c.plain-status.new.shelf.fetches
    (Rose 0 0) (Rose c.in_ok-out.out.faults c.plain-status.new.out.faults) (Rose c.in_ok-err.err.faults c.plain-status.new.err.faults)
    c.plain-status.result plain.refusal c.in_ok-out.out.taken c.plain-status.new.out.taken c.in_ok-err.err.taken c.plain-status.new.err.taken
    c.args.out_room c.args.err_room
    (ap (map string_bytes) c.as_slice.ensures.value ∙ c.in_ok-words.ensures.words) c.in_ok-out.ensures.taken c.in_ok-err.ensures.taken
    (λ rose. rose-some 0 0 rose refl)
    (λ rose. c.fits.ensures.full c.if-not-fits.false (rose-some _ _ rose))
    (λ rose. c.fits-else-not-fits.ensures.full c.if-not-fits-2.false (rose-some _ _ rose))
    plain.did plain.command plain.message
