use Rattle.std.proofs.Common.{◌≡◌, ◌≤◌, drop, map}
use Rattle.command_words.specs.WordsRead.{named}
use Rattle.asked_files.proofs.FetchLemmas.{IsGoing}
use Rattle.asked_files.proofs.fetching.fetch_all.Given as goal

abbrev pub invariant-loop-file : goal.invariant-loop-file
invariant-loop-file g l = record {
  going : IsGoing (g.S.Shelf.told_files l.initial.shelf) (map named l.files) (g.S.Shelf.fetches l.initial.shelf)
      (g.S.Shelf.fetches l.shelf) (map named (drop l.file-index l.files)) l.inputs;
  files_stay : g.S.Shelf.told_files l.shelf ≡ g.S.Shelf.told_files l.initial.shelf;
  fetches : g.S.Shelf.fetches l.initial.shelf ≤ g.S.Shelf.fetches l.shelf;
  faults : g.S.Shelf.faults l.initial.shelf ≤ g.S.Shelf.faults l.shelf;
}
