-- The text of why a run was cut short, as a user is told it.
use Rattle.std.specs.Prelude.{ℕ, List, codes}
use Rattle.replay_run.specs.declared.cut.Cut.{Cut}
use Rattle.replay_run.specs.declared.cut.Cut.TheVariants.{Memory, Write}

-- what is told of a cut: that memory ran out, or that the sink failed
abbrev pub cut_text : Cut → List ℕ
cut_text Memory = codes "out of memory"
cut_text Write = codes "the log can't be written"
