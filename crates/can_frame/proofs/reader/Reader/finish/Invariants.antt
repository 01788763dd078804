-- As many of the thirteen bits were read as the loop has come to.
use Rattle.can_frame.proofs.Finish.{Trailed}
use Rattle.can_frame.proofs.reader.Reader.finish.Given as goal

abbrev pub invariant-loop-due : goal.invariant-loop-due
invariant-loop-due l = Trailed l.initial.self l.self l.due-index
