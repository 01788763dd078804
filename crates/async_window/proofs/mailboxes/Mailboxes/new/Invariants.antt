use Rattle.async_window.proofs.Steps.{HasPut}
use Rattle.async_window.proofs.mailboxes.Mailboxes.new.Given as goal

abbrev pub invariant-loop-request : goal.invariant-loop-request
invariant-loop-request l = HasPut l.sorted.items l.requests l.request-index l.boxes.items l.remaining
