use Rattle.std.proofs.Common.{◌≡◌, ◌+◌, ◌==◌, [], ◌++◌, length, map, string_bytes}
use Rattle.std.specs.List.{slice_split}
use Rattle.std.specs.Option.{option_map_or}
use Rattle.fttcan_run_c.proofs.words.words_in.Given as goal

abbrev pub invariant-loop-left : goal.invariant-loop-left
invariant-loop-left l =
    map string_bytes l.words.items ++ option_map_or (λ rest. slice_split (λ byte. byte == 0) rest.now) l.left []
    ≡ slice_split (λ byte. byte == 0) l.text

abbrev pub decreases-loop-left : goal.decreases-loop-left
decreases-loop-left l = option_map_or (λ rest. length rest.now + 1) l.left 0
